-- What is known of a unit that was judged, and how functions are seen.
use Rattle.std.specs.Prelude.{ℕ, ℤ, pos, Bool, List, Option, Some, None, length, if◌then◌else◌}
use Rattle.std.specs.Option.{option_map}
use Rattle.sparse_model.specs.declared.ids.NameId.{NameId}
use Rattle.meaning_tree.specs.Nodes.{NodeList}
use Rattle.vocabulary.specs.declared.node_kind.NodeKind.{NodeKind}
use Rattle.vocabulary.specs.declared.node_kind.NodeKind.TheVariants as kinds
use Rattle.meaning_typing.specs.Units.{UnitNodes, node_at}
use Rattle.meaning_typing.specs.Facts.{Fact, fact_at}
use Rattle.meaning_typing.specs.ContextSums.{ContextSums}
use Rattle.meaning_control.specs.Nodes.{JudgedUnit, control_at, controls_of, declares_function}
use Rattle.decl_judge.specs.Units.{nodes_of}
use Rattle.control_flow.specs.declared.note.ContextNote.{ContextNote}
use Rattle.linear_code.specs.declared.facts.FunctionNote.{FunctionNote}

-- what a `JudgedUnit` has besides its nodes
pub record KnownFacts : Type 0 where
  pub facts : List Fact
  pub constant : ℕ → Option ℤ
  pub case_number : ℕ → ℤ
  pub contexts : ℕ → Option ContextSums
  pub is_noreturn : ℕ → Bool

-- the unit with these nodes of which this is known
abbrev pub judged_unit : NodeList NameId → KnownFacts → JudgedUnit
judged_unit unit known =
    record {
      nodes = nodes_of unit;
      facts = known.facts;
      constant = known.constant;
      case_number = known.case_number;
      contexts = known.contexts;
      is_noreturn = known.is_noreturn;
    }

abbrev pub note_of : ContextSums → ContextNote
note_of sums = record { enters = pos sums.enters; leaves = pos sums.leaves }

abbrev pub function_note : KnownFacts → (declarator : ℕ) → FunctionNote
function_note known declarator = record { contexts = option_map note_of (known.contexts declarator); is_noreturn = known.is_noreturn declarator }

abbrev pub function_known : KnownFacts → (declarator : ℕ) → Option FunctionNote
function_known known declarator =
    if declares_function (fact_at known.facts declarator) then Some (function_note known declarator) else None

-- of the function whose name a node of this kind is
abbrev pub function_of_kind : KnownFacts → UnitNodes → (handle : ℕ) → NodeKind → Option FunctionNote
function_of_kind known nodes handle kinds.Name = function_known known (node_at nodes handle).number
function_of_kind known nodes handle kind = None

-- the function that a node of a unit names, in parentheses or not, by its declarator
abbrev pub named_at : JudgedUnit → (handle : ℕ) → Option ℕ
named_at unit handle = (control_at (controls_of unit (length unit.nodes)) handle).names
