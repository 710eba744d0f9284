-- So far it was none of them.
use Rattle.std.proofs.Common.{◌≡◌}
use Rattle.decl_judge.specs.Units.{handles_of, nodes_of}
use Rattle.judged_objects.specs.Noreturn.{has_noreturn}
use Rattle.judged_objects.proofs.attributes.among_attributes.Given as goal

abbrev pub invariant-loop-attribute : goal.invariant-loop-attribute
invariant-loop-attribute l =
    has_noreturn (nodes_of l.unit) (handles_of l.attribute-iterator) ≡ has_noreturn (nodes_of l.unit) (handles_of l.attributes)
