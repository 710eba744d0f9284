use Rattle.std.proofs.Common.{ap, ◌∙◌}
use Rattle.decl_judge.specs.Units.{nodes_of}
use Rattle.node_facts.specs.Facts.{nodes_seen}
use Rattle.specifier_judge.specs.Parts.{enumerator_at}
use Rattle.specifier_judge.proofs.PartLemmas.{before_told}
use Rattle.specifier_judge.proofs.enumerator.fact_before.Goals as goal

pub returns-clause-seen : goal.returns-clause-seen
returns-clause-seen c = λ table.
    let nodes = nodes_of c.args.unit.now in
    let facts = nodes_seen table c.args.facts.now in
    c.enumerator_fact.ensures.seen table
    ∙ ap (enumerator_at nodes facts) c.child_at.ensures
    ∙ before_told nodes facts c.args.parent c.args.place c.if-place-eq0.false
