use Rattle.std.proofs.Common.{sym, ◌∙◌}
use Rattle.decl_judge.proofs.ParameterLemmas.{only_told}
use Rattle.decl_judge.proofs.parameters.only_child.Goals as goal

pub returns-then-len-eq1 : goal.returns-then-len-eq1
returns-then-len-eq1 c = only_told c.args.children.now c.get.result (sym c.len.ensures.value ∙ c.if-len-eq1.true) c.get.ensures.value
