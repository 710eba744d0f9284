-- What is kept of labels and jumps while nodes come in their order, and what it is kept of.
use Rattle.std.specs.Prelude.{ℕ, List}
use Rattle.meaning_typing.specs.Facts.{Fact}
use Rattle.meaning_typing.specs.Surroundings.{Surrounding}
use Rattle.meaning_typing.specs.Units.{UnitNodes}
use Rattle.meaning_statements.specs.Above.{expressions_around}
use Rattle.meaning_statements.specs.Jumps.{gotos_before, labels_before}
use Rattle.meaning_statements.specs.StatementRows.{switch_labels_before}
use Rattle.statement_rows.specs.Labels.{StandsForLabels, StandsForNamed}
use Rattle.statement_judge.specs.declared.statements.Statements.{Statements}
use Rattle.statement_judge.specs.Gotos.{StandsForGotos}
use Rattle.statement_judge.specs.Later.{ComeLater}
use Rattle.statement_judge.specs.Nesting.{IsNestingOf}

-- It is kept of the first so many nodes. What is known of later ones changes nothing.
pub record IsKeptOf (nodes : UnitNodes) (surroundings : List Surrounding) (facts : List Fact) (count : ℕ) (kept : Statements) : Type 0 where
  pub nesting : IsNestingOf nodes surroundings kept.nesting
  pub switches : (later : List Fact) → ComeLater nodes facts later
      → StandsForLabels kept.switch_labels (switch_labels_before nodes surroundings later count)
  pub labels : StandsForNamed kept.labels (labels_before nodes surroundings count)
  pub gotos : StandsForGotos (expressions_around nodes surroundings) kept.gotos (gotos_before nodes surroundings count)
