use Rattle.std.proofs.Common.{◌≡◌, IfOk, ap, ◌∙◌, subst}
use Rattle.std.proofs.lemmas.Result.{IfOk-weaker}
use Rattle.meaning_types.specs.Types.{TypeTree}
use Rattle.meaning_typing.specs.Declarators.{adjusted_in}
use Rattle.meaning_typing.specs.Specifiers.{with_marks}
use Rattle.meaning_typing.specs.Units.{kind_at}
use Rattle.c_types.specs.Table.{type_at}
use Rattle.node_facts.specs.Growing.{TypesJoin}
use Rattle.node_facts.proofs.GrowthLemmas.{joins_on}
use Rattle.decl_judge.specs.Units.{nodes_of}
use Rattle.decl_judge.proofs.declared.type_at_place.Goals as goal

pub returns-clause-made : goal.returns-clause-made
returns-clause-made c =
    let derived = type_at c.args.types.now c.args.derived in
    let marked = type_at c.with_marks.new.types c.in_ok-of.of in
    subst (λ (meant : TypeTree). IfOk c.adjusted_in.result (λ id. type_at c.adjusted_in.new.types id ≡ meant))
    (ap (λ kind. adjusted_in kind marked) c.kind_at.ensures
    ∙ ap (adjusted_in (kind_at (nodes_of c.args.unit.now) c.args.at.parent))
    (c.in_ok-of.ensures.made ∙ (λ i. with_marks (c.token_at-token.ensures i) (c.in_ok-marks.ensures i) derived)))
    c.adjusted_in.ensures.made

pub returns-clause-keeps : goal.returns-clause-keeps
returns-clause-keeps c =
    let old = c.args.types.now in
    let middle = c.with_marks.new.types in
    let new = c.adjusted_in.new.types in
    IfOk-weaker c.adjusted_in.result (λ _. TypesJoin middle new) (λ _. TypesJoin old new) (λ _ join. joins_on old middle new c.in_ok-of.ensures.keeps join)
    c.adjusted_in.ensures.keeps
