-- What is answered of nodes, over a table of types.
use Rattle.std.specs.Prelude.{◌≡◌, ◌<◌, ℕ, Bool, true, false, List, [], Some, get_or, length}
use Rattle.meaning_rules.specs.Rules.{least_broken}
use Rattle.meaning_typing.specs.Rows.{Row}
use Rattle.meaning_typing.specs.Surroundings.{Surrounding}
use Rattle.meaning_typing.specs.Units.{UnitNodes, kind_at}
use Rattle.c_types.specs.Table.{TypeTable}
use Rattle.expression_rows.specs.Rows.{broken_seen}
use Rattle.node_facts.specs.declared.fact.NodeFact.{NodeFact}
use Rattle.node_facts.specs.declared.fact.NodeFact.TheVariants as facts
use Rattle.node_facts.specs.Facts.{IsKnownNodeFact, node_seen}
use Rattle.unit_commands.specs.Known.{next_row}
use Rattle.unit_commands.specs.declared.answers.Answer.{Answer}
use Rattle.unit_commands.specs.declared.answers.Answer.TheVariants as answers
use Rattle.unit_commands.specs.Asked.{is_asked}

-- nothing is known
abbrev pub nothing : Answer
nothing = answers.Known facts.Unknown

-- an expression that breaks nothing has this fact by its row
pub record IsKnownBy (table : TypeTable) (row : Row) (known : NodeFact) : Type 0 where
  pub unbroken : row.broken ≡ []
  pub fact : node_seen table known ≡ row.fact
  pub ids : IsKnownNodeFact table known

-- this is answered of an expression by its row: what is known of it, or the least constraint that it breaks
abbrev pub IsAnswerBy : TypeTable → Row → Answer → Type 0
IsAnswerBy table row (answers.Known fact) = IsKnownBy table row fact
IsAnswerBy table row (answers.Breaks broken) = least_broken row.broken ≡ Some (broken_seen broken)

-- of a node that isn't asked nothing is
abbrev pub IsAnswerIf : (asked : Bool) → TypeTable → Row → Answer → Type 0
IsAnswerIf true table row answer = IsAnswerBy table row answer
IsAnswerIf false table row answer = answer ≡ nothing

-- this is answered of a node
abbrev pub IsAnswer : UnitNodes → List Surrounding → TypeTable → (handle : ℕ) → Answer → Type 0
IsAnswer nodes surroundings table handle answer =
    IsAnswerIf (is_asked (kind_at nodes handle)) table (next_row nodes surroundings handle) answer

-- all types that are told are of the table
abbrev pub IsKnownAnswer : TypeTable → Answer → Type 0
IsKnownAnswer table (answers.Known fact) = IsKnownNodeFact table fact
IsKnownAnswer table (answers.Breaks broken) = Unit {0}

abbrev pub AreKnownAnswers : TypeTable → List Answer → Type 0
AreKnownAnswers table answers = (handle : ℕ) → IsKnownAnswer table (get_or answers handle nothing)

-- these are answered of the nodes, as far as they go
abbrev pub AreAnswers : UnitNodes → List Surrounding → TypeTable → List Answer → Type 0
AreAnswers nodes surroundings table answers =
    (handle : ℕ) → handle < length answers → IsAnswer nodes surroundings table handle (get_or answers handle nothing)
