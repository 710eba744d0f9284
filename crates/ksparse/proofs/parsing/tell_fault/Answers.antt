use Rattle.std.proofs.lemmas.Result.{IfOk-weaker}
use Rattle.meaning_derivation.specs.State.{IsError, PassesLimit}
use Rattle.ksparse.proofs.parsing.tell_fault.Goals as goal

pub returns-in-Refused : goal.returns-in-Refused
returns-in-Refused c =
    IfOk-weaker c.tell_error.result _ _ (λ written is. (IsError c.in-Refused.kind, c.in-Refused.token, rw c.in-Refused.is at c.requires.fault, is)) c.tell_error.ensures

pub returns-in-Limit : goal.returns-in-Limit
returns-in-Limit c =
    IfOk-weaker c.limit.result _ _ (λ written is. (PassesLimit c.in-Limit.kind, _, rw c.in-Limit.is at c.requires.fault, is)) c.limit.ensures
