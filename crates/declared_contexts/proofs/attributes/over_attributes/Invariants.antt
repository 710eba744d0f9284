-- The sums so far, and what the attributes that are left add, is what all add.
use Rattle.std.proofs.Common.{◌≡◌, option_map}
use Rattle.decl_judge.specs.Units.{handles_of, nodes_of}
use Rattle.linked_names.specs.Contexts.{sums_of}
use Rattle.declared_contexts.specs.Sums.{sums_over}
use Rattle.declared_contexts.proofs.attributes.over_attributes.Given as goal

abbrev pub invariant-loop-attribute : goal.invariant-loop-attribute
invariant-loop-attribute l =
    sums_over (nodes_of l.unit) (option_map sums_of l.after) (handles_of l.attribute-iterator)
    ≡ sums_over (nodes_of l.unit) (option_map sums_of l.fn.sums) (handles_of l.attributes)
