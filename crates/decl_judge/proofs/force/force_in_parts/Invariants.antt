-- So far no part had it.
use Rattle.std.proofs.Common.{◌≡◌}
use Rattle.decl_judge.specs.Force.{attributes_of_parts, has_force}
use Rattle.decl_judge.specs.Units.{handles_of, nodes_of}
use Rattle.decl_judge.proofs.force.force_in_parts.Given as goal

abbrev pub invariant-loop-part : goal.invariant-loop-part
invariant-loop-part l =
    has_force (nodes_of l.unit) (attributes_of_parts (nodes_of l.unit) (handles_of l.part-iterator))
    ≡ has_force (nodes_of l.unit) (attributes_of_parts (nodes_of l.unit) (handles_of l.parts))
