use Rattle.std.proofs.Common.{◌≡◌, IfOk, ap, ◌∙◌, subst}
use Rattle.std.proofs.lemmas.Result.{IfOk-weaker}
use Rattle.meaning_types.specs.Types.{TypeTree}
use Rattle.meaning_typing.specs.Declarators.{adjusted}
use Rattle.meaning_typing.specs.Specifiers.{with_marks}
use Rattle.c_types.specs.Table.{type_at}
use Rattle.node_facts.specs.Growing.{TypesJoin}
use Rattle.node_facts.proofs.GrowthLemmas.{joins_on}
use Rattle.decl_judge.proofs.declared.nameless_type.Goals as goal

pub returns-clause-made : goal.returns-clause-made
returns-clause-made c =
    let said = type_at c.args.types.now c.args.specifiers.of in
    subst (λ (meant : TypeTree). IfOk c.adjusted.result (λ id. type_at c.adjusted.new.types id ≡ meant))
    (ap adjusted (c.in_ok-of.ensures.made ∙ (λ i. with_marks (c.token_at-token.ensures i) (c.in_ok-marks.ensures i) said)))
    c.adjusted.ensures.made

pub returns-clause-keeps : goal.returns-clause-keeps
returns-clause-keeps c =
    let old = c.args.types.now in
    let middle = c.with_marks.new.types in
    let new = c.adjusted.new.types in
    IfOk-weaker c.adjusted.result (λ _. TypesJoin middle new) (λ _. TypesJoin old new) (λ _ join. joins_on old middle new c.in_ok-of.ensures.keeps join)
    c.adjusted.ensures.keeps
