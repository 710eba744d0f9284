-- What is known of the index is kept of its expression.
use Rattle.std.proofs.Common.{◌≡◌, ℕ, sym, ap, subst, ◌∙◌}
use Rattle.meaning_typing.specs.Facts.{fact_at}
use Rattle.meaning_initializers.specs.Designators.{step_of}
use Rattle.meaning_initializers.specs.Items.{ElementAt}
use Rattle.node_facts.specs.declared.fact.NodeFact.{NodeFact}
use Rattle.node_facts.specs.Facts.{node_seen, nodes_seen}
use Rattle.decl_judge.proofs.AskedLemmas.{seen_at}
use Rattle.initializer_levels.specs.Parts.{type_seen}
use Rattle.initializer_levels.specs.Steps.{index_of, step_seen}
use Rattle.initializer_levels.proofs.way.step_at_index.Goals as goal

pub returns-clause-step : goal.returns-clause-step
returns-clause-step c = λ aggregates.
    let table = c.args.types.now in
    let kept = c.args.facts.now in
    let facts = nodes_seen table kept in
    subst (λ (handle : ℕ). step_seen table c.step_to_element.result ≡ step_of aggregates (type_seen table c.args.of) (ElementAt (fact_at facts handle))) c.child_at.ensures
    (c.step_to_element.ensures.step aggregates (fact_at facts c.child_at.result)
    (sym (ap index_of (seen_at table kept c.child_at.result))
    ∙ (ap (λ (fact : NodeFact). index_of (node_seen table fact)) (sym c.at.ensures) ∙ c.index_of-index.ensures)))
