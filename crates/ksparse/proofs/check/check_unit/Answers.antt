use Rattle.std.proofs.Common.{inl, inr}
use Rattle.std.proofs.lemmas.Result.{IfOk-weaker}
use Rattle.c_tokens.specs.Seen.{toks_of}
use Rattle.ksparse.specs.Written.{paths_of, reply_seen}
use Rattle.ksparse.proofs.CleanIsSafe.{refusal-unclean}
use Rattle.ksparse.proofs.check.check_unit.Goals as goal

pub returns-in-Ok-clause-right : goal.returns-in-Ok-clause-right
returns-in-Ok-clause-right c = IfOk-weaker c.check_tree.result _ _ (λ written told. inr told) c.check_tree.ensures.right

pub returns-in-Ok-clause-linked : goal.returns-in-Ok-clause-linked
returns-in-Ok-clause-linked c = IfOk-weaker c.check_tree.result _ _ (λ written linked clean. linked) c.check_tree.ensures.linked

pub returns-in-Err-clause-right : goal.returns-in-Err-clause-right
returns-in-Err-clause-right c = IfOk-weaker c.tell_fault.result _ _ (λ written told. inl told) c.tell_fault.ensures

pub returns-in-Err-clause-linked : goal.returns-in-Err-clause-linked
returns-in-Err-clause-linked c =
    let names = c.args.names.now in
    let toks = c.args.toks.now in
    IfOk-weaker c.tell_fault.result _ _
    (λ written told clean. absurd (refusal-unclean (paths_of names toks.files) (toks_of names toks.tokens) told.0 told.1 (reply_seen written) told.3 clean))
    c.tell_fault.ensures
