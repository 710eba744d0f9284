-- The sums so far, and what the specifiers that are left add, is what all add.
use Rattle.std.proofs.Common.{◌≡◌, option_map}
use Rattle.decl_judge.specs.Units.{handles_of, nodes_of}
use Rattle.linked_names.specs.Contexts.{sums_of}
use Rattle.meaning_typing.specs.Tags.{attributes_of_specifiers}
use Rattle.declared_contexts.specs.Sums.{sums_over}
use Rattle.declared_contexts.proofs.contexts.over_specifiers.Given as goal

abbrev pub invariant-loop-specifier : goal.invariant-loop-specifier
invariant-loop-specifier l =
    sums_over (nodes_of l.unit) (option_map sums_of l.after) (attributes_of_specifiers (nodes_of l.unit) (handles_of l.specifier-iterator))
    ≡ sums_over (nodes_of l.unit) (option_map sums_of l.fn.sums) (attributes_of_specifiers (nodes_of l.unit) (handles_of l.specifiers))
