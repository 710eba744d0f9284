-- What was added so far, and what the lists that are left add, is what all add.
use Rattle.std.proofs.Common.{◌≡◌}
use Rattle.meaning_typing.specs.Specifiers.{no_marks}
use Rattle.decl_judge.specs.Seen.{lists_from, marks_over, marks_seen}
use Rattle.decl_judge.specs.Units.{nodes_of}
use Rattle.member_declarations.proofs.fact.marks_from.Given as goal

abbrev pub invariant-loop-next : goal.invariant-loop-next
invariant-loop-next l =
    marks_over (nodes_of l.unit) (marks_seen l.marks) (lists_from (nodes_of l.unit) l.children l.next)
    ≡ marks_over (nodes_of l.unit) no_marks (lists_from (nodes_of l.unit) l.children l.fn.place)
