-- The largest so far, and those of the specifiers that are left, come to that of all.
use Rattle.std.proofs.Common.{◌≡◌, false, max}
use Rattle.meaning_typing.specs.MemberDeclarations as meaning
use Rattle.decl_judge.specs.Units.{handles_of, nodes_of}
use Rattle.body_members.proofs.specifiers.alignment_among_specifiers.Given as goal

abbrev pub invariant-loop-specifier : goal.invariant-loop-specifier
invariant-loop-specifier l =
    max l.largest (meaning.alignment_among (nodes_of l.unit) (meaning.attributes_apart (nodes_of l.unit) l.is_behind_body (handles_of l.specifier-iterator)))
    ≡ meaning.alignment_among (nodes_of l.unit) (meaning.attributes_apart (nodes_of l.unit) false (handles_of l.specifiers))
