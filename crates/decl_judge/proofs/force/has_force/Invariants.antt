-- So far it was none of them.
use Rattle.std.proofs.Common.{◌≡◌}
use Rattle.decl_judge.specs.Force.{has_force}
use Rattle.decl_judge.specs.Units.{handles_of, nodes_of}
use Rattle.decl_judge.proofs.force.has_force.Given as goal

abbrev pub invariant-loop-attribute : goal.invariant-loop-attribute
invariant-loop-attribute l =
    has_force (nodes_of l.unit) (handles_of l.attribute-iterator) ≡ has_force (nodes_of l.unit) (handles_of l.attributes)
