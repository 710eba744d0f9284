-- The sums so far, and what the lists that are left add, is what all add.
use Rattle.std.proofs.Common.{◌≡◌, ◌+◌, option_map}
use Rattle.meaning_typing.specs.Specifiers.{attributes_among}
use Rattle.decl_judge.specs.Seen.{lists_from}
use Rattle.decl_judge.specs.Units.{nodes_of}
use Rattle.linked_names.specs.Contexts.{sums_of}
use Rattle.declared_contexts.specs.Sums.{sums_over}
use Rattle.declared_contexts.proofs.attributes.over_lists_after.Given as goal

abbrev pub invariant-loop-next : goal.invariant-loop-next
invariant-loop-next l =
    sums_over (nodes_of l.unit) (option_map sums_of l.after) (attributes_among (nodes_of l.unit) (lists_from (nodes_of l.unit) l.children l.next))
    ≡ sums_over (nodes_of l.unit) (option_map sums_of l.fn.sums) (attributes_among (nodes_of l.unit) (lists_from (nodes_of l.unit) l.children (l.fn.place + 1)))
