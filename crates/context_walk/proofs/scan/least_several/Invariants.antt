-- The least so far, and what is left.
use Rattle.std.proofs.Common.{◌≡◌, None, length}
use Rattle.context_walk.specs.Passed.{passed_seen}
use Rattle.context_walk.specs.Scans.{several_at}
use Rattle.context_walk.proofs.LeastLemmas.{lowest}
use Rattle.context_walk.proofs.scan.least_several.Given as goal

abbrev pub invariant-steps : goal.invariant-steps
invariant-steps l = lowest several_at l.least (passed_seen l.rest) ≡ lowest several_at None (passed_seen l.passed)

abbrev pub decreases-steps : goal.decreases-steps
decreases-steps l = length l.rest
