-- Each node that is kept has a type of the table.
use Rattle.type_workbench.specs.Folding.{IsFolding}
use Rattle.type_workbench.proofs.constants.Folding.run.Given as goal

abbrev pub invariant-tokens : goal.invariant-tokens
invariant-tokens l = IsFolding l.self.types l.self.unit l.self.kept
