use Rattle.std.proofs.Common.{sym, ap, ◌∙◌}
use Rattle.meaning_typing.specs.Facts.{fact_at}
use Rattle.meaning_typing.specs.MemberRows.{is_unbounded}
use Rattle.meaning_typing.specs.Names as meaning
use Rattle.meaning_typing.specs.Surroundings.{surrounding_at}
use Rattle.decl_judge.specs.Units.{nodes_of}
use Rattle.decl_judge.proofs.AskedLemmas.{seen_at}
use Rattle.node_facts.specs.Facts.{declared_seen, node_seen, nodes_seen}
use Rattle.node_surroundings.specs.Seen.{surroundings_seen}
use Rattle.declaration_rows.proofs.CompletedLemmas.{bounded_stays, unbounded_completes}
use Rattle.declaration_rows.proofs.completed.declared_behind.Goals as goal

pub returns-then-not-is_unbounded-clause-seen : goal.returns-then-not-is_unbounded-clause-seen
returns-then-not-is_unbounded-clause-seen c =
    let table = c.args.types.now in
    let nodes = nodes_of c.args.unit.now in
    let facts = nodes_seen table c.args.facts.now in
    let at = surrounding_at (surroundings_seen c.args.surroundings.now) c.args.declarator in
    bounded_stays (declared_seen table c.args.declaration) (fact_at facts c.args.declarator)
    (fact_at facts (meaning.initializer_behind nodes at c.args.declarator)) c.requires.declares (sym c.is_unbounded.ensures ∙ c.if-not-is_unbounded.true)

pub returns-clause-seen : goal.returns-clause-seen
returns-clause-seen c =
    let table = c.args.types.now in
    let nodes = nodes_of c.args.unit.now in
    let kept = c.args.facts.now in
    let facts = nodes_seen table kept in
    let at = surrounding_at (surroundings_seen c.args.surroundings.now) c.args.declarator in
    let declaration = declared_seen table c.args.declaration in
    c.completed_by.ensures.seen table
    ∙ ap (meaning.completed_by declaration)
    (ap (node_seen table) c.at.ensures
    ∙ seen_at table kept c.initializer_behind-initializer.result
    ∙ ap (fact_at facts)
    (c.initializer_behind-initializer.ensures
    ∙ ap (λ at. meaning.initializer_behind nodes at c.args.declarator) c.standing_at-surrounding.ensures))
    ∙ unbounded_completes declaration (fact_at facts c.args.declarator) (fact_at facts (meaning.initializer_behind nodes at c.args.declarator))
    c.requires.declares (sym c.is_unbounded.ensures ∙ c.if-not-is_unbounded.false)
