-- The first ones were appended.
use Rattle.std.proofs.Common.{◌≡◌, ◌++◌, take}
use Rattle.init_judge.proofs.appending.push_all.Given as goal

abbrev pub invariant-loop-failure : goal.invariant-loop-failure
invariant-loop-failure l = l.found ≡ l.fn.found ++ take l.failure-index l.failures
