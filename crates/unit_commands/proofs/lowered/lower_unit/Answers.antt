-- By what the judge answers.
use Rattle.std.proofs.Common.{inl, inr, subst, ◌∙◌}
use Rattle.std.proofs.lemmas.Result.{IfOk-weaker}
use Rattle.decl_judge.specs.Units.{nodes_of}
use Rattle.ksparse.specs.Judging.{IsRefusedFor}
use Rattle.ksparse.proofs.Judging.{limit-passed}
use Rattle.unit_commands.proofs.lowered.lower_unit.Goals as goal

pub returns-in-Err-Constraint : goal.returns-in-Err-Constraint
returns-in-Err-Constraint c =
    let is = subst (IsRefusedFor (nodes_of c.args.unit.now)) c.in-Err-Constraint.field-0-is c.in-Err-Constraint.ensures.refused in
    IfOk-weaker c.constraint.result _ _ (λ written told. inr (inl (c.in-Err-Constraint.broken, is, told))) c.constraint.ensures

pub returns-in-Err-Limit : goal.returns-in-Err-Limit
returns-in-Err-Limit c =
    let nodes = nodes_of c.args.unit.now in
    let passed = limit-passed nodes c.in-Err-Limit.kind (subst (IsRefusedFor nodes) c.in-Err-Limit.field-0-is c.in-Err-Limit.ensures.refused) in
    IfOk-weaker c.limit.result _ _ (λ written told. inr (inr (passed.0, told ∙ passed.1))) c.limit.ensures
