-- The first child that names a type is the first of those that are left.
use Rattle.std.proofs.Common.{◌≡◌}
use Rattle.decl_judge.specs.Asked.{naming_handle}
use Rattle.decl_judge.specs.Units.{handles_of, nodes_of}
use Rattle.decl_judge.proofs.specifiers.naming_child.Given as goal

abbrev pub invariant-loop-child : goal.invariant-loop-child
invariant-loop-child l = naming_handle (nodes_of l.unit) (handles_of l.child-iterator) ≡ naming_handle (nodes_of l.unit) (handles_of l.children)
