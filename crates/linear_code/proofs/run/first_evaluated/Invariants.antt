-- None so far was evaluated.
use Rattle.std.proofs.Common.{◌≡◌, get_or}
use Rattle.meaning_typing.specs.Evaluation.{evaluated_among}
use Rattle.linear_code.proofs.run.first_evaluated.Given as goal

abbrev pub invariant-loop-child : goal.invariant-loop-child
invariant-loop-child l = get_or (evaluated_among l.child-iterator) 0 l.otherwise ≡ get_or (evaluated_among l.children) 0 l.otherwise
