-- The sums so far, and what the lists that are left add, is what all add.
use Rattle.std.proofs.Common.{◌≡◌, option_map}
use Rattle.decl_judge.specs.Units.{handles_of, nodes_of}
use Rattle.linked_names.specs.Contexts.{sums_of}
use Rattle.meaning_typing.specs.Specifiers.{attributes_among}
use Rattle.declared_contexts.specs.Sums.{sums_over}
use Rattle.declared_contexts.proofs.attributes.over_lists.Given as goal

abbrev pub invariant-loop-child : goal.invariant-loop-child
invariant-loop-child l =
    sums_over (nodes_of l.unit) (option_map sums_of l.after) (attributes_among (nodes_of l.unit) (handles_of l.child-iterator))
    ≡ sums_over (nodes_of l.unit) (option_map sums_of l.fn.sums) (attributes_among (nodes_of l.unit) (handles_of l.children))
