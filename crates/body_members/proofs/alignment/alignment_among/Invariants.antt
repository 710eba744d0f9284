-- The largest so far, and those of the attributes that are left, come to that of all.
use Rattle.std.proofs.Common.{◌≡◌, max}
use Rattle.meaning_typing.specs.MemberDeclarations as meaning
use Rattle.decl_judge.specs.Units.{handles_of, nodes_of}
use Rattle.body_members.proofs.alignment.alignment_among.Given as goal

abbrev pub invariant-loop-attribute : goal.invariant-loop-attribute
invariant-loop-attribute l =
    max l.largest (meaning.alignment_among (nodes_of l.unit) (handles_of l.attribute-iterator))
    ≡ max l.fn.least (meaning.alignment_among (nodes_of l.unit) (handles_of l.attributes))
