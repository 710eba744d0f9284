use Rattle.std.proofs.Common.{sym, subst}
use Rattle.number_sets.specs.Branches.{AreBranches, AreDone, AreGrown}
use Rattle.number_sets.proofs.BranchLemmas.{AreBranches-none}
use Rattle.number_sets.proofs.sets.NumberSets.new.Goals as goal

pub invariant_of-result : goal.invariant_of-result
invariant_of-result c = (subst AreBranches (sym c.new.ensures.branches) AreBranches-none, subst (AreDone _) (sym c.new.ensures.done) tt, subst (AreGrown _) (sym c.new-2.ensures) tt)
