use Rattle.std.proofs.Common.{length, ap, ◌∙◌}
use Rattle.expr_judge.proofs.selections.count_of.Goals as goal

pub returns-in-Some : goal.returns-in-Some
returns-in-Some c = c.len.ensures.value ∙ ap (λ node. length node.children) c.in-Some.ensures

pub returns-in-None : goal.returns-in-None
returns-in-None c = ap (λ node. length node.children) c.in-None.ensures
