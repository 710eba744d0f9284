use Rattle.std.proofs.Common.{ap, ◌∙◌}
use Rattle.meaning_typing.specs.Declarators.{named_if, type_designated}
use Rattle.meaning_typing.specs.Facts.{fact_at}
use Rattle.meaning_typing.specs.Units.{child_at}
use Rattle.decl_judge.specs.Units.{nodes_of}
use Rattle.node_facts.specs.Facts.{nodes_seen}
use Rattle.specifier_judge.proofs.RowLemmas.{says_known}
use Rattle.specifier_judge.proofs.names.typeof_expression.Goals as goal

pub returns : goal.returns
returns c = λ table ids.
    let facts = nodes_seen table c.args.facts.now in
    says_known table c.known.result c.typeof_fact.result (named_if (type_designated (fact_at facts (child_at (nodes_of c.args.unit.now) c.args.handle 0)))) c.known.ensures
    (c.typeof_fact.ensures.fact table ∙ ap (λ handle. named_if (type_designated (fact_at facts handle))) c.child_at.ensures)
    (c.typeof_fact.ensures.known table ids)
