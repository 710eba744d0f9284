-- What was added so far, and what the lists that are left add, is what all add.
use Rattle.std.proofs.Common.{◌≡◌}
use Rattle.decl_judge.specs.Seen.{marks_over, marks_seen}
use Rattle.decl_judge.specs.Units.{handles_of, nodes_of}
use Rattle.decl_judge.proofs.marks.marks_with_lists.Given as goal

abbrev pub invariant-loop-child : goal.invariant-loop-child
invariant-loop-child l =
    marks_over (nodes_of l.unit) (marks_seen l.after) (handles_of l.child-iterator)
    ≡ marks_over (nodes_of l.unit) (marks_seen l.fn.marks) (handles_of l.children)
