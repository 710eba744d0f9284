-- The list that was met, if one was, and those among the children that are left are all of them.
use Rattle.std.proofs.Common.{◌≡◌, ◌+◌, length}
use Rattle.decl_judge.specs.Units.{handles_of, nodes_of}
use Rattle.node_judge.specs.Bodies.{count_met, lists_among}
use Rattle.node_judge.proofs.bodies.is_one_list.Given as goal

abbrev pub invariant-loop-child : goal.invariant-loop-child
invariant-loop-child l =
    count_met l.has_list + length (lists_among (nodes_of l.unit) (handles_of l.child-iterator))
    ≡ length (lists_among (nodes_of l.unit) (handles_of l.children))
