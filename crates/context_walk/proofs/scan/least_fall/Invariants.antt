-- The least so far, and what is left.
use Rattle.std.proofs.Common.{◌≡◌, None, length}
use Rattle.control_flow.specs.Seen.{the_key}
use Rattle.context_walk.specs.Passed.{passed_seen}
use Rattle.context_walk.specs.Scans.{too_low_at}
use Rattle.context_walk.proofs.LeastLemmas.{lowest}
use Rattle.context_walk.proofs.scan.least_fall.Given as goal

abbrev pub invariant-steps : goal.invariant-steps
invariant-steps l = lowest (too_low_at the_key) l.least (passed_seen l.rest) ≡ lowest (too_low_at the_key) None (passed_seen l.passed)

abbrev pub decreases-steps : goal.decreases-steps
decreases-steps l = length l.rest
