-- The largest so far, and those of the lists that are left, come to that of all.
use Rattle.std.proofs.Common.{◌≡◌, ◌+◌, max}
use Rattle.meaning_typing.specs.MemberDeclarations as meaning
use Rattle.meaning_typing.specs.Specifiers.{attributes_among}
use Rattle.decl_judge.specs.Seen.{lists_from}
use Rattle.decl_judge.specs.Units.{nodes_of}
use Rattle.body_members.proofs.behind.alignment_after.Given as goal

abbrev pub invariant-loop-next : goal.invariant-loop-next
invariant-loop-next l =
    max l.largest (meaning.alignment_among (nodes_of l.unit) (attributes_among (nodes_of l.unit) (lists_from (nodes_of l.unit) l.children l.next)))
    ≡ meaning.alignment_among (nodes_of l.unit) (attributes_among (nodes_of l.unit) (lists_from (nodes_of l.unit) l.children (l.fn.place + 1)))
