use Rattle.std.proofs.Common.{◌≡◌, ◌++◌, None, length}
use Rattle.failure_listing.specs.Ranks.{kept_behind}
use Rattle.failure_listing.proofs.listing.without_repeats.Given as goal

abbrev pub invariant-failures : goal.invariant-failures
invariant-failures l = l.kept.items ++ kept_behind l.last l.left ≡ kept_behind None l.sorted

abbrev pub decreases-failures : goal.decreases-failures
decreases-failures l = length l.left
