use Rattle.std.proofs.Common.{subst}
use Rattle.std.proofs.lemmas.Result.{IfOk-weaker}
use Rattle.meaning_safety.specs.Safe.{DeriveLinkedTree}
use Rattle.ksparse.specs.Written.{reply_seen}
use Rattle.ksparse.proofs.Numbered.{numbered-unit, told-count}
use Rattle.ksparse.proofs.UnitReplies.{told-alike}
use Rattle.ksparse.proofs.check.check_renumbered.Goals as goal

pub check_unit-requires-clause-numbered : goal.check_unit-requires-clause-numbered
check_unit-requires-clause-numbered c =
    let found = c.in_ok-found.found in
    let is = c.in_ok-found.ensures in
    numbered-unit c.args.names found.names c.args.toks found.toks found.told is.same is.begins is.table c.apart.ensures.empty

pub check_unit-requires-clause-told : goal.check_unit-requires-clause-told
check_unit-requires-clause-told c =
    let found = c.in_ok-found.found in
    told-count c.args.names found.names c.args.toks found.toks found.told c.in_ok-found.ensures.same c.in_ok-found.ensures.begins

pub returns-clause-right : goal.returns-clause-right
returns-clause-right c =
    let same = c.in_ok-found.ensures.same in
    IfOk-weaker c.check_unit.result _ _
    (λ written told. told-alike c.args.classes.now (reply_seen written) same.files same.tokens same.undef_tokens told)
    c.check_unit.ensures.right

pub returns-clause-linked : goal.returns-clause-linked
returns-clause-linked c =
    IfOk-weaker c.check_unit.result _ _ (λ written linked clean. subst DeriveLinkedTree c.in_ok-found.ensures.same.tokens (linked clean)) c.check_unit.ensures.linked
