-- So far no list had it.
use Rattle.std.proofs.Common.{◌≡◌}
use Rattle.meaning_typing.specs.Specifiers.{attributes_among}
use Rattle.decl_judge.specs.Units.{handles_of, nodes_of}
use Rattle.judged_objects.specs.Noreturn.{has_noreturn}
use Rattle.judged_objects.proofs.attributes.among_lists.Given as goal

abbrev pub invariant-loop-child : goal.invariant-loop-child
invariant-loop-child l =
    has_noreturn (nodes_of l.unit) (attributes_among (nodes_of l.unit) (handles_of l.child-iterator)) ≡ has_noreturn (nodes_of l.unit) (attributes_among (nodes_of l.unit) (handles_of l.children))
