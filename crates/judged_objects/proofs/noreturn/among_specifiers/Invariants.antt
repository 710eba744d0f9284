-- So far no specifier had it.
use Rattle.std.proofs.Common.{◌≡◌}
use Rattle.meaning_typing.specs.Tags.{attributes_of_specifiers}
use Rattle.decl_judge.specs.Units.{handles_of, nodes_of}
use Rattle.judged_objects.specs.Noreturn.{has_noreturn}
use Rattle.judged_objects.proofs.noreturn.among_specifiers.Given as goal

abbrev pub invariant-loop-specifier : goal.invariant-loop-specifier
invariant-loop-specifier l =
    has_noreturn (nodes_of l.unit) (attributes_of_specifiers (nodes_of l.unit) (handles_of l.specifier-iterator)) ≡ has_noreturn (nodes_of l.unit) (attributes_of_specifiers (nodes_of l.unit) (handles_of l.specifiers))
