-- The switch around it, if there is one.
use Rattle.std.proofs.Common.{◌≡◌, Some, None, sym, subst, ap, ◌∙◌}
use Rattle.meaning_typing.specs.Facts.{fact_at}
use Rattle.meaning_statements.specs.Jumps.{switch_of}
use Rattle.meaning_statements.specs.StatementRows.{switched_fact}
use Rattle.decl_judge.specs.Units.{nodes_of}
use Rattle.decl_judge.proofs.AskedLemmas.{known_at, seen_at}
use Rattle.node_facts.specs.Facts.{IsKnownNodeFact, node_seen, nodes_seen}
use Rattle.statement_judge.specs.declared.enclosing.Enclosing.{Enclosing}
use Rattle.judged_control.proofs.asked.switched.Goals as goal

pub returns-in-Some-clause-seen : goal.returns-in-Some-clause-seen
returns-in-Some-clause-seen c = λ table surroundings kept.
    let nodes = nodes_of c.args.unit.now in
    let facts = nodes_seen table c.args.facts.now in
    let around : switch_of nodes surroundings c.args.statement ≡ Some c.in-Some.switch =
    sym (ap (λ (one : Enclosing). one.switch) (c.at.ensures ∙ kept c.args.statement)) ∙ c.in-Some.is in
    ap (node_seen table) c.at-in-Some.ensures
    ∙ seen_at table c.args.facts.now c.child_at.result
    ∙ ap (fact_at facts) c.child_at.ensures
    ∙ ap (switched_fact nodes facts) (sym around)

pub returns-in-Some-clause-known : goal.returns-in-Some-clause-known
returns-in-Some-clause-known c = λ table ids.
    subst (IsKnownNodeFact table) (sym c.at-in-Some.ensures) (known_at table c.args.facts.now c.child_at.result ids)

pub returns-in-None-clause-seen : goal.returns-in-None-clause-seen
returns-in-None-clause-seen c = λ table surroundings kept.
    let nodes = nodes_of c.args.unit.now in
    let facts = nodes_seen table c.args.facts.now in
    let around : switch_of nodes surroundings c.args.statement ≡ None =
    sym (ap (λ (one : Enclosing). one.switch) (c.at.ensures ∙ kept c.args.statement)) ∙ c.in-None.is in
    ap (switched_fact nodes facts) (sym around)
