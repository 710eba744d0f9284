-- What is told of the nodes is told of the tree that the tokens derive.
use Rattle.std.proofs.Common.{inl, inr}
use Rattle.std.proofs.lemmas.Result.{IfOk-weaker}
use Rattle.unit_commands.proofs.lowered.lower_tokens.Goals as goal

pub returns-in-Ok : goal.returns-in-Ok
returns-in-Ok c =
    IfOk-weaker c.lower_unit.result _ _ (λ written told. inl (c.in-Ok.unit, rw c.as_slice.ensures at c.in-Ok.ensures.tree, told)) c.lower_unit.ensures

pub returns-in-Err : goal.returns-in-Err
returns-in-Err c = IfOk-weaker c.tell_fault.result _ _ (λ written told. inr told) c.tell_fault.ensures
