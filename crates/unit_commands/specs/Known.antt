-- What is known of the first nodes of a unit by the rows that ask no initializers: what `judge_expr` answers of expressions.
use Rattle.std.specs.Prelude.{ℕ, List}
use Rattle.meaning_typing.specs.Rows.{Row}
use Rattle.meaning_typing.specs.Surroundings.{Surrounding}
use Rattle.meaning_typing.specs.Units.{UnitNodes}
use Rattle.meaning_typing.specs.WholeTyping.{first_whole_facts, whole_row_at}
use Rattle.node_facts.specs.Growing.{TypesJoin}
use Rattle.node_judge.specs.declared.known.Known.{Known}
use Rattle.node_judge.specs.Known.{IsKnownOf, table_of}

-- the row of the next node
abbrev pub next_row : UnitNodes → List Surrounding → (handle : ℕ) → Row
next_row nodes surroundings handle = whole_row_at nodes surroundings (first_whole_facts nodes surroundings handle) handle

-- this is known of the first so many nodes, of each by its row
abbrev pub IsFirstKnown : UnitNodes → List Surrounding → (count : ℕ) → Known → Type 0
IsFirstKnown nodes surroundings count known = IsKnownOf nodes surroundings count (first_whole_facts nodes surroundings count) known

-- what is known stands for the same nodes, and types alone may have joined the table
pub record StaysFirst (nodes : UnitNodes) (surroundings : List Surrounding) (count : ℕ) (old new : Known) : Type 0 where
  pub known : IsFirstKnown nodes surroundings count new
  pub types : TypesJoin (table_of old) (table_of new)
