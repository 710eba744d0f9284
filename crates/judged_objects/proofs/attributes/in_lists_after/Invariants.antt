-- What was found so far, and what the lists that are left have, is what all have.
use Rattle.std.proofs.Common.{◌≡◌, ◌+◌, ◌||◌}
use Rattle.meaning_typing.specs.Specifiers.{attributes_among}
use Rattle.decl_judge.specs.Seen.{lists_from}
use Rattle.decl_judge.specs.Units.{nodes_of}
use Rattle.judged_objects.specs.Noreturn.{has_noreturn}
use Rattle.judged_objects.proofs.attributes.in_lists_after.Given as goal

abbrev pub invariant-loop-next : goal.invariant-loop-next
invariant-loop-next l =
    l.found || has_noreturn (nodes_of l.unit) (attributes_among (nodes_of l.unit) (lists_from (nodes_of l.unit) l.children l.next))
    ≡ has_noreturn (nodes_of l.unit) (attributes_among (nodes_of l.unit) (lists_from (nodes_of l.unit) l.children (l.fn.place + 1)))
