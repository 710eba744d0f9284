use Rattle.std.proofs.Common.{◌≡◌, sym, ap, ◌∙◌}
use Rattle.std.proofs.lemmas.Result.{IfOk-weaker}
use Rattle.meaning_typing.specs.OffsetRows.{OffsetStep, ToMember, step_of, step_to}
use Rattle.meaning_typing.specs.Units.{kind_at}
use Rattle.decl_judge.specs.Units.{nodes_of}
use Rattle.node_facts.specs.Facts.{nodes_seen}
use Rattle.node_facts.proofs.GrowthLemmas.{joins_none}
use Rattle.member_rows.specs.Aggregates.{aggregates_in}
use Rattle.member_rows.specs.Steps.{reached_seen, walk_told}
use Rattle.whole_judge.specs.Walks.{element_of, step_at}
use Rattle.whole_judge.proofs.WalkLemmas.{other_step}
use Rattle.whole_judge.proofs.walk.step_of.Goals as goal

pub returns-in-MemberDesignator-clause-step : goal.returns-in-MemberDesignator-clause-step
returns-in-MemberDesignator-clause-step c =
    let nodes = nodes_of c.args.unit.now in
    let old = c.args.types.now in
    let facts = nodes_seen old c.args.facts.now in
    let designator = c.args.designator in
    let kind = sym c.in-MemberDesignator.is ∙ c.kind_at.ensures in
    c.step_to_member.ensures.step
    ∙ (λ i. walk_told (step_to (aggregates_in old) (reached_seen old c.args.reached) (ToMember (c.token_at.ensures i) (c.name_at-name.ensures i))))
    ∙ ap (λ kind. walk_told (step_to (aggregates_in old) (reached_seen old c.args.reached) (step_of nodes facts designator kind))) kind

pub returns-in-MemberDesignator-clause-keeps : goal.returns-in-MemberDesignator-clause-keeps
returns-in-MemberDesignator-clause-keeps c = joins_none c.args.types.now

pub returns-in_default-clause-step : goal.returns-in_default-clause-step
returns-in_default-clause-step c =
    let nodes = nodes_of c.args.unit.now in
    let old = c.args.types.now in
    let facts = nodes_seen old c.args.facts.now in
    let designator = c.args.designator in
    let same : element_of nodes facts designator ≡ step_at nodes facts designator =
    other_step nodes facts designator (kind_at nodes designator) (λ is. c.in_default.not-MemberDesignator (c.kind_at.ensures ∙ is)) in
    IfOk-weaker c.element_step.result _ _
    (λ step is. is ∙ ap (λ (meant : OffsetStep). walk_told (step_to (aggregates_in old) (reached_seen old c.args.reached) meant)) same)
    c.element_step.ensures.step
