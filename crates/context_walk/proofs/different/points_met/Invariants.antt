-- What is met and what is left make up all.
use Rattle.std.proofs.Common.{◌≡◌, ◌++◌, length}
use Rattle.context_walk.specs.Passed.{passed_seen}
use Rattle.context_walk.specs.Met.{mets_of}
use Rattle.context_walk.proofs.different.points_met.Given as goal

abbrev pub invariant-steps : goal.invariant-steps
invariant-steps l = l.met.items ++ mets_of (passed_seen l.rest) ≡ mets_of (passed_seen l.passed)

abbrev pub decreases-steps : goal.decreases-steps
decreases-steps l = length l.rest
