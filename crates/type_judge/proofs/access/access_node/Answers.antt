-- The access is judged by the expression alone.
use Rattle.std.proofs.Common.{refl, sym, subst, ◌∙◌}
use Rattle.std.proofs.lemmas.Result.{IfOk-weaker}
use Rattle.meaning_typing.specs.Typing.{access_failures}
use Rattle.node_surroundings.specs.Seen.{surrounding_seen}
use Rattle.expression_rows.specs.Arguments.{listed_failure}
use Rattle.expression_rows.specs.Facts.{IsKnownPart, part_seen}
use Rattle.type_judge.proofs.AccessLemmas.{access_is}
use Rattle.expr_judge.proofs.PartLemmas.{expression-known}
use Rattle.expr_judge.proofs.TellingLemmas.{one_known, one_listed}
use Rattle.type_judge.proofs.access.access_node.Goals as goal

pub judge_access-failure-requires : goal.judge_access-failure-requires
judge_access-failure-requires c =
    subst (IsKnownPart c.args.types.now) (sym c.expression_of-part.ensures) (expression-known c.args.types.now c.args.fact c.requires)

pub returns : goal.returns
returns c =
    let table = c.args.types.now in
    let surrounding = surrounding_seen c.args.surrounding in
    let failure = c.judge_access-failure.result in
    IfOk-weaker c.append.result _ _
    (λ _ appended. (
      listed_failure failure,
      appended,
      one_listed table failure ∙ c.judge_access-failure.ensures.failure surrounding refl (sym c.accesses-is_wanted.ensures)
          ∙ (λ i. access_failures c.args.token surrounding (part_seen table (c.expression_of-part.ensures i)))
          ∙ access_is table c.args.token surrounding c.args.fact,
      one_known table failure c.judge_access-failure.ensures.known,
    ))
    c.append.ensures
