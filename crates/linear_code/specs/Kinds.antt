-- What some nodes are to control, by what is known of their parts.
use Rattle.std.specs.Prelude.{ℕ, Bool, is_some, [], nat_eq, Option, Some, None, if◌then◌else◌}
use Rattle.meaning_control.specs.Kinds.{ControlKind, Calling, Conditional, Or}
use Rattle.meaning_control.specs.Nodes.{either_way, unknown_value}
use Rattle.control_cells.specs.Seen.{passes_seen}
use Rattle.linear_code.specs.declared.facts.FunctionNote.{FunctionNote}

-- a call, by what is known of the function that it names
abbrev pub called_noted : (token : ℕ) → (is_tested : Bool) → Option FunctionNote → ControlKind
called_noted token is_tested None = unknown_value is_tested
called_noted token is_tested (Some note) =
    if note.is_noreturn then Calling (passes_seen token note.contexts) []
    else (if is_some note.contexts then Calling (passes_seen token note.contexts) (either_way is_tested) else unknown_value is_tested)

-- `?:` with so many operands
abbrev pub conditional_of : (operands : ℕ) → ControlKind
conditional_of operands = if nat_eq operands 2 then Or else Conditional
