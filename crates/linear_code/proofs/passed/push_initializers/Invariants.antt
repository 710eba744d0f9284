-- What is appended, and the initializers among those that are left, is all.
use Rattle.std.proofs.Common.{◌≡◌, ◌++◌, false}
use Rattle.decl_judge.specs.Units.{nodes_of}
use Rattle.linear_code.specs.Passed.{initializers_waited}
use Rattle.linear_code.proofs.passed.push_initializers.Given as goal

abbrev pub invariant-loop-child : goal.invariant-loop-child
invariant-loop-child g l =
    l.passed.items ++ initializers_waited (nodes_of l.unit) (g.J.ControlFacts.known l.facts).facts l.waits l.child-iterator
    ≡ l.initial.passed.items ++ initializers_waited (nodes_of l.unit) (g.J.ControlFacts.known l.facts).facts false l.children
