-- What was added so far, and what the attributes that are left add, is what all add.
use Rattle.std.proofs.Common.{◌≡◌}
use Rattle.meaning_typing.specs.Specifiers as meaning
use Rattle.decl_judge.specs.Seen.{marks_seen}
use Rattle.decl_judge.specs.Units.{handles_of, nodes_of}
use Rattle.decl_judge.proofs.marks.marks_behind.Given as goal

abbrev pub invariant-loop-attribute : goal.invariant-loop-attribute
invariant-loop-attribute l =
    meaning.marks_behind (nodes_of l.unit) (marks_seen l.after) (handles_of l.attribute-iterator)
    ≡ meaning.marks_behind (nodes_of l.unit) (marks_seen l.fn.marks) (handles_of l.attributes)
