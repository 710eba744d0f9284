use Rattle.std.proofs.Common.{◌≡◌, sym, ap, subst, ◌∙◌}
use Rattle.meaning_typing.specs.DeclarationRows.{hiding_enumerator_failures}
use Rattle.meaning_typing.specs.EnumRows.{enumerator_by, enumerator_row}
use Rattle.decl_judge.specs.Units.{nodes_of}
use Rattle.expr_judge.specs.declared.row.NodeRow.{NodeRow}
use Rattle.expr_judge.specs.Rows.{Tells}
use Rattle.expression_rows.specs.Rows.{told}
use Rattle.node_facts.specs.Facts.{nodes_seen}
use Rattle.node_surroundings.specs.Seen.{surrounding_seen}
use Rattle.specifier_judge.proofs.RowLemmas.{tells_enumerator}
use Rattle.specifier_judge.proofs.enumerator.enumerator.Goals as goal

pub judge_enumerator-requires-clause-expression : goal.judge_enumerator-requires-clause-expression
judge_enumerator-requires-clause-expression c = c.expression_fact-expression.ensures.known c.args.types.now c.requires.facts

pub judge_enumerator-requires-clause-before : goal.judge_enumerator-requires-clause-before
judge_enumerator-requires-clause-before c = c.fact_before-before.ensures.known c.args.types.now c.requires.facts

pub returns : goal.returns
returns c =
    let nodes = nodes_of c.args.unit.now in
    let handle = c.args.handle in
    let surrounding = surrounding_seen c.args.surrounding in
    let old = c.args.types.now in
    let new = c.judge_enumerator.new.types in
    let facts = nodes_seen old c.args.facts.now in
    let before = c.args.found.now in
    let after = c.append.new.found in
    let meant = enumerator_row nodes facts handle surrounding in
    let failures = hiding_enumerator_failures nodes handle surrounding in
    subst (λ (row : NodeRow). Tells old new before after row (record meant { failures = failures })) (sym c.take_enumeration.ensures)
    (tells_enumerator old new before after c.in_ok-row.ensures.keeps c.in_ok-row.row meant
    (c.in_ok-row.ensures.row
    ∙ (λ i. told (enumerator_by (c.token_at.ensures i) (c.expression_fact-expression.ensures.seen old i) (c.fact_before-before.ensures.seen old i))))
    c.in_ok-row.ensures.known c.hiding_enumerator_failure-hiding.result failures c.in_ok-append.ensures (c.hiding_enumerator_failure-hiding.ensures.listed new)
    (c.hiding_enumerator_failure-hiding.ensures.known new))
