-- The least so far, with those that are left, comes to the least of all.
use Rattle.std.proofs.Common.{◌≡◌, None}
use Rattle.linear_code.specs.Run.{least_from}
use Rattle.linear_code.proofs.run.least_child.Given as goal

abbrev pub invariant-loop-child : goal.invariant-loop-child
invariant-loop-child l = least_from l.least l.child-iterator ≡ least_from None l.children
