use Rattle.std.proofs.Common.{sym, ap, subst, ◌∙◌}
use Rattle.meaning_typing.specs.Facts.{fact_at}
use Rattle.meaning_typing.specs.Units.{child_at}
use Rattle.decl_judge.specs.Units.{nodes_of}
use Rattle.decl_judge.proofs.AskedLemmas.{known_at, seen_at}
use Rattle.node_facts.specs.Facts.{IsKnownNodeFact, node_seen, nodes_seen}
use Rattle.specifier_judge.proofs.RowLemmas.{says_known}
use Rattle.specifier_judge.proofs.names.typeof_name.Goals as goal

pub returns : goal.returns
returns c = λ table ids.
    let kept = c.args.facts.now in
    let facts = nodes_seen table kept in
    let child = c.child_at.result in
    says_known table c.known.result c.at.result (fact_at facts (child_at (nodes_of c.args.unit.now) c.args.handle 0)) c.known.ensures
    (ap (node_seen table) c.at.ensures ∙ seen_at table kept child ∙ ap (fact_at facts) c.child_at.ensures)
    (subst (IsKnownNodeFact table) (sym c.at.ensures) (known_at table kept child ids))
