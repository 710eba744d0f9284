-- What was told first stays; else the body joins the others.
use Rattle.std.proofs.Common.{◌≡◌, ◌++◌, ◌∷◌, [], nat_eq, option_map, sym, ap, subst, ◌∙◌}
use Rattle.std.specs.Map.{lookup}
use Rattle.std.proofs.lemmas.Result.{IfOk-weaker}
use Rattle.c_types.specs.Table.{TypeTable}
use Rattle.specifier_judge.specs.Seen.{body_seen}
use Rattle.member_rows.specs.Aggregates.{aggregates_in, bodies_in}
use Rattle.whole_rows.specs.ConstAggregates.{AreConst}
use Rattle.node_judge.specs.Bodies.{AreOneFirst, BodiesJoin, aggregates_with}
use Rattle.node_judge.proofs.FirstLemmas.{bodies_more, first_told_again}
use Rattle.node_judge.proofs.TellLemmas.{joins_none, joins_one, there_is, there_is_none, told_again, told_more}
use Rattle.node_judge.proofs.bodies.tell.Goals as goal

pub returns-then-is_some-clause-told : goal.returns-then-is_some-clause-told
returns-then-is_some-clause-told c =
    let table = c.args.types.now in
    let found = there_is c.body.result (sym c.is_some.ensures ∙ c.if-is_some.true) in
    told_again table c.args.aggregate c.args.body found.0.now (sym c.body.ensures.told ∙ ap (option_map (λ body. body.now)) found.1)

pub returns-then-is_some-clause-first : goal.returns-then-is_some-clause-first
returns-then-is_some-clause-first c =
    let table = c.args.types.now in
    let found = there_is c.body.result (sym c.is_some.ensures ∙ c.if-is_some.true) in
    first_told_again table c.args.aggregate c.args.body found.0.now (sym c.body.ensures.told ∙ ap (option_map (λ body. body.now)) found.1)

pub returns-then-is_some-clause-joins : goal.returns-then-is_some-clause-joins
returns-then-is_some-clause-joins c = joins_none c.args.types.now c.requires.bodies

pub tell-requires-clause-untold : goal.tell-requires-clause-untold
tell-requires-clause-untold c =
    sym c.body.ensures.told ∙ ap (option_map (λ body. body.now)) (there_is_none c.body.result (sym c.is_some.ensures ∙ c.if-is_some.false))

pub complete-requires-clause-untold : goal.complete-requires-clause-untold
complete-requires-clause-untold c =
    sym c.body.ensures.told ∙ ap (option_map (λ body. body.now)) (there_is_none c.body.result (sym c.is_some.ensures ∙ c.if-is_some.false))

pub returns-clause-told : goal.returns-clause-told
returns-clause-told c =
    let table = c.args.types.now in
    IfOk-weaker c.complete.result _ _
    (λ _ told.
    subst (λ (new : TypeTable). aggregates_in new ≡ aggregates_with (aggregates_in table) (c.args.aggregate, body_seen table c.args.body)) (sym told)
    (told_more table c.args.aggregate c.args.body))
    c.complete.ensures.told

pub returns-clause-first : goal.returns-clause-first
returns-clause-first c =
    let table = c.args.types.now in
    IfOk-weaker c.complete.result _ _
    (λ _ told.
    subst (λ (new : TypeTable). AreOneFirst (bodies_in new) (bodies_in table ++ (c.args.aggregate, body_seen table c.args.body) ∷ [])) (sym told)
    (λ number. ap (lookup (nat_eq number)) (bodies_more table c.args.aggregate c.args.body)))
    c.complete.ensures.told

pub returns-clause-consts : goal.returns-clause-consts
returns-clause-consts c =
    IfOk-weaker c.complete.result _ _ (λ _ told. subst (λ (new : TypeTable). AreConst new c.tell.new.self) (sym told) c.in_ok-tell.ensures.told)
    c.complete.ensures.told

pub returns-clause-joins : goal.returns-clause-joins
returns-clause-joins c =
    let table = c.args.types.now in
    IfOk-weaker c.complete.result _ _
    (λ _ told. subst (BodiesJoin table) (sym told) (joins_one table c.args.aggregate c.args.body c.requires.bodies c.requires.body)) c.complete.ensures.told
