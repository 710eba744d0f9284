-- Nodes that change the count of contexts.
use Rattle.std.specs.Prelude.{◌≡◌, ℕ, Bool, true, false, is_some, Option, Some, None}
use Rattle.vocabulary.specs.declared.node_kind.NodeKind.{NodeKind}
use Rattle.vocabulary.specs.declared.node_kind.NodeKind.TheVariants as kinds
use Rattle.sparse_model.specs.declared.ids.NameId.{NameId}
use Rattle.meaning_tree.specs.Nodes.{NodeList}
use Rattle.meaning_tree.specs.Laid.{IsWithin}
use Rattle.meaning_typing.specs.Units.{child_at, kind_at}
use Rattle.meaning_control.specs.Nodes.{JudgedUnit, control_at, controls_of}
use Rattle.meaning_control.specs.Functions.{statement_of}
use Rattle.linear_code.specs.declared.facts.FunctionNote.{FunctionNote}

abbrev pub has_contexts : JudgedUnit → Option ℕ → Bool
has_contexts unit None = false
has_contexts unit (Some function) = is_some (unit.contexts function)

abbrev pub has_contexts_noted : Option FunctionNote → Bool
has_contexts_noted None = false
has_contexts_noted (Some note) = is_some note.contexts

-- a context statement, or a call by name of a function with contexts
abbrev pub changes : JudgedUnit → (handle : ℕ) → NodeKind → Bool
changes unit handle kinds.ContextStatement = true
changes unit handle kinds.Call = has_contexts unit (control_at (controls_of unit handle) (child_at unit.nodes handle 0)).names
changes unit handle kind = false

-- some node of the body of a function is one
abbrev pub BodyChanges : NodeList NameId → JudgedUnit → (function : ℕ) → Type 0
BodyChanges list unit function = (handle : ℕ) × IsWithin list (statement_of unit function) handle × (changes unit handle (kind_at unit.nodes handle) ≡ true)
