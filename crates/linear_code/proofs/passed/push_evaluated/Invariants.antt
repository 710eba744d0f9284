-- What is appended, and what is evaluated of those that are left, is all.
use Rattle.std.proofs.Common.{◌≡◌, ◌++◌}
use Rattle.meaning_typing.specs.Evaluation.{evaluated_among}
use Rattle.linear_code.proofs.passed.push_evaluated.Given as goal

abbrev pub invariant-loop-child : goal.invariant-loop-child
invariant-loop-child l = l.passed.items ++ evaluated_among l.child-iterator ≡ l.initial.passed.items ++ evaluated_among l.children
