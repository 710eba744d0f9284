-- The sums so far, and what the parts that are left add, is what all add.
use Rattle.std.proofs.Common.{◌≡◌, option_map}
use Rattle.decl_judge.specs.Units.{handles_of, nodes_of}
use Rattle.linked_names.specs.Contexts.{sums_of}
use Rattle.declared_contexts.specs.Sums.{attributes_of_parts, sums_over}
use Rattle.declared_contexts.proofs.contexts.over_parts.Given as goal

abbrev pub invariant-loop-part : goal.invariant-loop-part
invariant-loop-part l =
    sums_over (nodes_of l.unit) (option_map sums_of l.after) (attributes_of_parts (nodes_of l.unit) (handles_of l.part-iterator))
    ≡ sums_over (nodes_of l.unit) (option_map sums_of l.fn.sums) (attributes_of_parts (nodes_of l.unit) (handles_of l.parts))
