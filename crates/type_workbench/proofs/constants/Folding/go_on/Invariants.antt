-- Each node that is kept has a type of the table.
use Rattle.type_workbench.specs.Folding.{IsFolding}
use Rattle.type_workbench.proofs.constants.Folding.go_on.Given as goal

abbrev pub invariant-times : goal.invariant-times
invariant-times l = IsFolding l.self.types l.self.unit l.self.kept
