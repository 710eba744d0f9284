-- What is appended, and the objects among those that are left, is all.
use Rattle.std.proofs.Common.{◌≡◌, ◌++◌}
use Rattle.linear_code.specs.Passed.{objects_among}
use Rattle.linear_code.proofs.passed.push_objects.Given as goal

abbrev pub invariant-loop-child : goal.invariant-loop-child
invariant-loop-child g l =
    l.passed.items ++ objects_among (g.J.ControlFacts.known l.facts).facts l.child-iterator
    ≡ l.initial.passed.items ++ objects_among (g.J.ControlFacts.known l.facts).facts l.children
