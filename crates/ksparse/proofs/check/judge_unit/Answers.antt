use Rattle.std.proofs.Common.{subst, ◌∙◌}
use Rattle.std.proofs.lemmas.Result.{IfOk-weaker}
use Rattle.meaning_rules.specs.Rules.{Holds, BreaksConstraint, PassesObjectSize}
use Rattle.decl_judge.specs.Units.{nodes_of}
use Rattle.expression_rows.specs.Rows.{broken_seen}
use Rattle.context_judge.specs.Found.{found_seen}
use Rattle.context_judge.specs.Judging.{IsRefusedFor}
use Rattle.ksparse.specs.Written.{reply_seen}
use Rattle.ksparse.proofs.Judging.{constraint-told, limit-passed, unit-told}
use Rattle.ksparse.proofs.check.judge_unit.Goals as goal

pub returns-in-Ok : goal.returns-in-Ok
returns-in-Ok c =
    let is = c.in-Ok.ensures.judged in
    let judged = c.in-Ok.judged in
    IfOk-weaker c.tell.result _ _
    (λ written told.
    unit-told c.args.names.now c.args.toks.now c.args.classes.now (reply_seen written) c.args.unit.now c.requires.tree is.surroundings
    (is.are_surroundings, (Holds (found_seen judged.types judged.failures), (is.surroundings, is.rows, is.are_surroundings, is.are_rows, is.judgement), told)))
    (c.tell.ensures is)

pub returns-in-Err-Constraint : goal.returns-in-Err-Constraint
returns-in-Err-Constraint c =
    let names = c.args.names.now in
    let toks = c.args.toks.now in
    let nodes = nodes_of c.args.unit.now in
    let broken = c.in-Err-Constraint.broken in
    let is = subst (IsRefusedFor nodes) c.in-Err-Constraint.field-0-is c.in-Err-Constraint.ensures.refused in
    IfOk-weaker c.constraint.result _ _
    (λ written told.
    unit-told names toks c.args.classes.now (reply_seen written) c.args.unit.now c.requires.tree is.0 (
      is.2,
      (
        BreaksConstraint (broken_seen broken),
        is,
        constraint-told names toks c.args.classes.now (reply_seen written) c.requires.numbered nodes is.0 broken told,
      ),
    ))
    c.constraint.ensures

pub returns-in-Err-Limit : goal.returns-in-Err-Limit
returns-in-Err-Limit c =
    let names = c.args.names.now in
    let toks = c.args.toks.now in
    let nodes = nodes_of c.args.unit.now in
    let passed = limit-passed nodes c.in-Err-Limit.kind (subst (IsRefusedFor nodes) c.in-Err-Limit.field-0-is c.in-Err-Limit.ensures.refused) in
    let is = passed.0 in
    IfOk-weaker c.limit.result _ _
    (λ written told.
    unit-told names toks c.args.classes.now (reply_seen written) c.args.unit.now c.requires.tree is.0
    (is.2, (PassesObjectSize, is, told ∙ passed.1)))
    c.limit.ensures
