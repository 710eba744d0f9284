use Rattle.std.proofs.Common.{Some, option_map, sym, ap, ◌∙◌}
use Rattle.meaning_typing.specs.Facts.{fact_at}
use Rattle.decl_judge.specs.Units.{nodes_of}
use Rattle.decl_judge.proofs.AskedLemmas.{seen_at}
use Rattle.node_facts.specs.Facts.{node_seen, nodes_seen}
use Rattle.specifier_judge.proofs.PartLemmas.{expression-is}
use Rattle.specifier_judge.proofs.enumerator.expression_fact.Goals as goal

pub returns-in-Some-clause-seen : goal.returns-in-Some-clause-seen
returns-in-Some-clause-seen c = λ table.
    let facts = nodes_seen table c.args.facts.now in
    ap (λ fact. Some (node_seen table fact)) c.at.ensures
    ∙ ap Some (seen_at table c.args.facts.now c.in-Some.expression)
    ∙ ap (option_map (fact_at facts)) (sym c.in-Some.is ∙ c.expression_of.ensures)
    ∙ expression-is (nodes_of c.args.unit.now) facts c.args.enumerator

pub returns-in-None-clause-seen : goal.returns-in-None-clause-seen
returns-in-None-clause-seen c = λ table.
    let facts = nodes_seen table c.args.facts.now in
    ap (option_map (fact_at facts)) (sym c.in-None.is ∙ c.expression_of.ensures) ∙ expression-is (nodes_of c.args.unit.now) facts c.args.enumerator
