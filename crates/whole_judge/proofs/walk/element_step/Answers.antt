use Rattle.std.proofs.Common.{◌≡◌, ap, ◌∙◌}
use Rattle.meaning_typing.specs.Facts.{fact_at}
use Rattle.meaning_typing.specs.OffsetRows.{ToElement, step_to}
use Rattle.meaning_typing.specs.Typing.{part_fact, part_token, token_at}
use Rattle.decl_judge.specs.Units.{nodes_of}
use Rattle.expression_rows.specs.Facts.{valued_part}
use Rattle.node_facts.specs.Facts.{nodes_seen}
use Rattle.expr_judge.specs.Parts.{only_expression}
use Rattle.member_rows.specs.Aggregates.{aggregates_in}
use Rattle.member_rows.specs.Steps.{reached_seen, walk_told}
use Rattle.member_rows.proofs.AggregateLemmas.{aggregates_stay}
use Rattle.whole_judge.proofs.WalkLemmas.{element_only, reached_known, reached_later}
use Rattle.whole_judge.proofs.walk.element_step.Goals as goal

pub step_to_element-requires-clause-reached : goal.step_to_element-requires-clause-reached
step_to_element-requires-clause-reached c =
    reached_known c.args.types.now c.operand_at.new.types c.in_ok-index.ensures.keeps c.args.reached c.requires.reached

pub returns-clause-step : goal.returns-clause-step
returns-clause-step c =
    let nodes = nodes_of c.args.unit.now in
    let old = c.args.types.now in
    let new = c.operand_at.new.types in
    let facts = nodes_seen old c.args.facts.now in
    let designator = c.args.designator in
    let join = c.in_ok-index.ensures.keeps in
    let aggregates = aggregates_stay old new join c.requires.bodies in
    let reached = reached_later old new join c.args.reached c.requires.reached in
    let index : valued_part new c.in_ok-index.index ≡ only_expression (part_fact nodes facts designator 0) =
    c.in_ok-index.ensures.seen ∙ ap (λ handle. only_expression (fact_at facts handle)) c.child_at-child.ensures in
    let standing = c.token_at-standing.ensures ∙ ap (token_at nodes) c.child_at-child.ensures in
    c.step_to_element.ensures.step
    ∙ (λ i. walk_told (step_to (aggregates i) (reached i) (ToElement (c.token_at-token.ensures i) (standing i) (index i))))
    ∙ ap walk_told
    (element_only (aggregates_in old) (reached_seen old c.args.reached) (token_at nodes designator) (part_token nodes designator 0) (part_fact nodes facts designator 0))
