-- The handles that were listed stand before those that are left.
use Rattle.std.proofs.Common.{◌≡◌, ◌++◌}
use Rattle.decl_judge.specs.Units.{handles_of}
use Rattle.initializer_levels.proofs.items.listed.Given as goal

abbrev pub invariant-loop-child : goal.invariant-loop-child
invariant-loop-child l = l.list.items ++ handles_of l.child-iterator ≡ handles_of l.children
