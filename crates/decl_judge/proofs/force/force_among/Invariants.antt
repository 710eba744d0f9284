-- So far no list had it.
use Rattle.std.proofs.Common.{◌≡◌}
use Rattle.meaning_typing.specs.Specifiers.{attributes_among}
use Rattle.decl_judge.specs.Force.{has_force}
use Rattle.decl_judge.specs.Units.{handles_of, nodes_of}
use Rattle.decl_judge.proofs.force.force_among.Given as goal

abbrev pub invariant-loop-child : goal.invariant-loop-child
invariant-loop-child l =
    has_force (nodes_of l.unit) (attributes_among (nodes_of l.unit) (handles_of l.child-iterator))
    ≡ has_force (nodes_of l.unit) (attributes_among (nodes_of l.unit) (handles_of l.children))
