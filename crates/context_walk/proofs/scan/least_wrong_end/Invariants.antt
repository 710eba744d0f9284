-- The least so far, and what is left.
use Rattle.std.proofs.Common.{◌≡◌, None, length}
use Rattle.context_walk.specs.Passed.{passed_seen}
use Rattle.context_walk.specs.Scans.{seen_end, wrong_end_at}
use Rattle.context_walk.proofs.LeastLemmas.{lowest_end}
use Rattle.context_walk.proofs.scan.least_wrong_end.Given as goal

abbrev pub invariant-steps : goal.invariant-steps
invariant-steps l = lowest_end (wrong_end_at l.leaves) (seen_end l.least) (passed_seen l.rest) ≡ lowest_end (wrong_end_at l.leaves) None (passed_seen l.passed)

abbrev pub decreases-steps : goal.decreases-steps
decreases-steps l = length l.rest
