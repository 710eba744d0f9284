-- So far there was no `...`.
use Rattle.std.proofs.Common.{◌≡◌}
use Rattle.meaning_typing.specs.Declarators as meaning
use Rattle.decl_judge.specs.Units.{handles_of, nodes_of}
use Rattle.decl_judge.proofs.parameters.is_variadic.Given as goal

abbrev pub invariant-loop-child : goal.invariant-loop-child
invariant-loop-child l = meaning.is_variadic (nodes_of l.unit) (handles_of l.child-iterator) ≡ meaning.is_variadic (nodes_of l.unit) (handles_of l.children)
