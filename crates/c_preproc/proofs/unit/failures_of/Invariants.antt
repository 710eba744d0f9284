use Rattle.std.proofs.Common.{◌≡◌, ◌++◌, length}
use Rattle.c_preproc.specs.Units.{failures_from}
use Rattle.c_preproc.proofs.unit.failures_of.Given as goal

-- those so far and those to come are all
abbrev pub invariant-tokens : goal.invariant-tokens
invariant-tokens l = l.failures.items ++ failures_from l.number l.left ≡ failures_from 0 l.tokens

abbrev pub decreases-tokens : goal.decreases-tokens
decreases-tokens l = length l.left
