-- So far no part had it.
use Rattle.std.proofs.Common.{◌≡◌}
use Rattle.declared_contexts.specs.Sums.{attributes_of_parts}
use Rattle.decl_judge.specs.Units.{handles_of, nodes_of}
use Rattle.judged_objects.specs.Noreturn.{has_noreturn}
use Rattle.judged_objects.proofs.noreturn.among_parts.Given as goal

abbrev pub invariant-loop-part : goal.invariant-loop-part
invariant-loop-part l =
    has_noreturn (nodes_of l.unit) (attributes_of_parts (nodes_of l.unit) (handles_of l.part-iterator)) ≡ has_noreturn (nodes_of l.unit) (attributes_of_parts (nodes_of l.unit) (handles_of l.parts))
