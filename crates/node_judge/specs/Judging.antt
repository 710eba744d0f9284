-- What is answered of an expression.
use Rattle.std.specs.Prelude.{◌≡◌, ℕ, List, Some}
use Rattle.meaning_typing.specs.Rows.{Row}
use Rattle.meaning_typing.specs.Surroundings.{Surrounding}
use Rattle.meaning_typing.specs.Units.{UnitNodes}
use Rattle.meaning_rules.specs.Rules.{least_broken}
use Rattle.expression_rows.specs.Rows.{broken_seen}
use Rattle.node_facts.specs.Growing.{TypesJoin}
use Rattle.node_judge.specs.declared.fault.ExprFault.{ExprFault}
use Rattle.node_judge.specs.declared.fault.ExprFault.TheVariants as faults
use Rattle.node_judge.specs.declared.known.Known.{Known}
use Rattle.node_judge.specs.Known.{IsKnownOf, facts_seen, table_of}

-- It is refused for the least constraint that its row breaks; want of memory says nothing.
abbrev pub IsRefusedFor : Row → ExprFault → Type 0
IsRefusedFor row (faults.Constraint broken) = least_broken row.broken ≡ Some (broken_seen broken)
IsRefusedFor row faults.Memory = Unit {0}

-- what is known stands for the same nodes, and types alone may have joined the table
pub record StaysKnown (nodes : UnitNodes) (surroundings : List Surrounding) (count : ℕ) (old new : Known) : Type 0 where
  pub known : IsKnownOf nodes surroundings count (facts_seen old) new
  pub types : TypesJoin (table_of old) (table_of new)

-- so it is where a constraint is broken; want of memory says nothing
abbrev pub KeepsKnown : UnitNodes → List Surrounding → (count : ℕ) → (old new : Known) → ExprFault → Type 0
KeepsKnown nodes surroundings count old new (faults.Constraint broken) = StaysKnown nodes surroundings count old new
KeepsKnown nodes surroundings count old new faults.Memory = Unit {0}
