-- The first child that names a type is the first of those that are left.
use Rattle.std.proofs.Common.{◌≡◌}
use Rattle.decl_judge.specs.Units.{handles_of, nodes_of}
use Rattle.tag_rows.specs.Seen.{any_naming_handle}
use Rattle.tag_rows.proofs.specifiers.naming_child.Given as goal

abbrev pub invariant-loop-child : goal.invariant-loop-child
invariant-loop-child l =
    any_naming_handle (nodes_of l.unit) (handles_of l.child-iterator) ≡ any_naming_handle (nodes_of l.unit) (handles_of l.children)
