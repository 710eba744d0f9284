-- So far it was none of them.
use Rattle.std.proofs.Common.{◌≡◌}
use Rattle.decl_judge.specs.Units.{handles_of, nodes_of}
use Rattle.judged_objects.specs.Noreturn.{has_specifier}
use Rattle.judged_objects.proofs.noreturn.has_specifier.Given as goal

abbrev pub invariant-loop-specifier : goal.invariant-loop-specifier
invariant-loop-specifier l =
    has_specifier (nodes_of l.unit) (handles_of l.specifier-iterator) ≡ has_specifier (nodes_of l.unit) (handles_of l.specifiers)
