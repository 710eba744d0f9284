-- The first expression is the first of the children that are left.
use Rattle.std.proofs.Common.{◌≡◌}
use Rattle.decl_judge.specs.Units.{handles_of, nodes_of}
use Rattle.specifier_judge.specs.Parts.{expression_part}
use Rattle.specifier_judge.proofs.enumerators.expression_among.Given as goal

abbrev pub invariant-loop-child : goal.invariant-loop-child
invariant-loop-child l =
    expression_part (nodes_of l.unit) (handles_of l.child-iterator) ≡ expression_part (nodes_of l.unit) (handles_of l.children)
