-- What was added so far, and what the specifiers that are left add, is what all add.
use Rattle.std.proofs.Common.{◌≡◌}
use Rattle.meaning_typing.specs.Specifiers.{marks_behind, no_marks}
use Rattle.meaning_typing.specs.Tags.{attributes_of_specifiers}
use Rattle.decl_judge.specs.Seen.{marks_seen}
use Rattle.decl_judge.specs.Units.{handles_of, nodes_of}
use Rattle.tag_rows.proofs.attributes.marks_of_specifiers.Given as goal

abbrev pub invariant-loop-child : goal.invariant-loop-child
invariant-loop-child l =
    marks_behind (nodes_of l.unit) (marks_seen l.marks) (attributes_of_specifiers (nodes_of l.unit) (handles_of l.child-iterator))
    ≡ marks_behind (nodes_of l.unit) no_marks (attributes_of_specifiers (nodes_of l.unit) (handles_of l.children))
