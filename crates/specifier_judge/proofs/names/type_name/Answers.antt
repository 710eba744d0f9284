use Rattle.meaning_typing.specs.Declarators.{named_if, named_type}
use Rattle.decl_judge.specs.Units.{nodes_of}
use Rattle.node_facts.specs.Facts.{nodes_seen}
use Rattle.specifier_judge.proofs.RowLemmas.{says_known}
use Rattle.specifier_judge.proofs.names.type_name.Goals as goal

pub returns : goal.returns
returns c = λ table ids.
    says_known table c.known.result c.name_fact.result (named_if (named_type (nodes_of c.args.unit.now) (nodes_seen table c.args.facts.now) c.args.handle))
    c.known.ensures (c.name_fact.ensures.fact table) (c.name_fact.ensures.known table ids)
