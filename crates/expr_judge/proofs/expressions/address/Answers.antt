use Rattle.std.proofs.Common.{◌≡◌, sym, ap, ◌∙◌, subst}
use Rattle.meaning_typing.specs.Expressions.{address_row}
use Rattle.meaning_typing.specs.Facts.{fact_at}
use Rattle.meaning_typing.specs.Typing.{token_at}
use Rattle.meaning_typing.specs.Units.{child_at}
use Rattle.decl_judge.specs.Units.{nodes_of}
use Rattle.expression_rows.specs.Facts.{IsKnownPart, part_seen}
use Rattle.expression_rows.specs.Rows.{told}
use Rattle.node_facts.specs.Facts.{nodes_seen}
use Rattle.expr_judge.specs.Parts.{only_expression}
use Rattle.expr_judge.proofs.PartLemmas.{address_only, part_is, part_known}
use Rattle.expr_judge.proofs.TakenLemmas.{row_taken}
use Rattle.expr_judge.proofs.expressions.address.Goals as goal

pub judge_address-requires : goal.judge_address-requires
judge_address-requires c =
    let old = c.args.types.now in
    let kept = c.args.facts.now in
    subst (IsKnownPart old) (sym c.expression_at-operand.ensures) (part_known old kept c.child_at.result c.requires.known)

pub returns : goal.returns
returns c =
    let nodes = nodes_of c.args.unit.now in
    let old = c.args.types.now in
    let kept = c.args.facts.now in
    let new = c.judge_address.new.types in
    let facts = nodes_seen old kept in
    let handle = c.args.handle in
    let child = child_at nodes handle 0 in
    let operand : part_seen old c.expression_at-operand.result ≡ only_expression (fact_at facts child) =
    ap (part_seen old) c.expression_at-operand.ensures
    ∙ part_is old kept c.child_at.result
    ∙ ap (λ handle. only_expression (fact_at facts handle)) c.child_at.ensures in
    row_taken old new (c.in_ok-row.ensures.keeps) c.args.found.now c.take_row.new.found c.in_ok-row.row
    (address_row (token_at nodes handle) (fact_at facts child)) c.in_ok-row.ensures.known c.take_row.result c.take_row.ensures.row
    c.take_row.ensures.failures
    (c.in_ok-row.ensures.row
    ∙ (λ i. told (address_row (c.token_at.ensures i) (operand i)))
    ∙ ap told (address_only (token_at nodes handle) (fact_at facts child)))
