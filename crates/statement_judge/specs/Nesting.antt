-- What is kept of the nesting of a unit's nodes, and what it is kept of.
use Rattle.std.specs.Prelude.{List}
use Rattle.meaning_typing.specs.Units.{UnitNodes}
use Rattle.meaning_typing.specs.Surroundings.{Surrounding}
use Rattle.statement_judge.specs.declared.nesting.Nesting.{Nesting}
use Rattle.statement_judge.specs.Enclosing.{AreEnclosings}
use Rattle.statement_judge.specs.Runs.{AreFirsts}

-- it is that of the nodes, where they stand in this
pub record IsNestingOf (nodes : UnitNodes) (surroundings : List Surrounding) (kept : Nesting) : Type 0 where
  pub above : AreEnclosings nodes surroundings kept.enclosings
  pub runs : AreFirsts surroundings kept.runs
