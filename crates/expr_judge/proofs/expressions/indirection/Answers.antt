use Rattle.std.proofs.Common.{◌≡◌, ap, ◌∙◌}
use Rattle.meaning_typing.specs.Expressions.{indirection_row}
use Rattle.meaning_typing.specs.Facts.{fact_at}
use Rattle.meaning_typing.specs.Typing.{token_at}
use Rattle.meaning_typing.specs.Units.{child_at}
use Rattle.decl_judge.specs.Units.{nodes_of}
use Rattle.expression_rows.specs.Facts.{valued_part}
use Rattle.expression_rows.specs.Rows.{told}
use Rattle.node_facts.specs.Facts.{nodes_seen}
use Rattle.expr_judge.specs.Parts.{only_expression}
use Rattle.expr_judge.proofs.PartLemmas.{indirection_only}
use Rattle.expr_judge.proofs.TakenLemmas.{row_taken}
use Rattle.expr_judge.proofs.expressions.indirection.Goals as goal

pub returns : goal.returns
returns c =
    let nodes = nodes_of c.args.unit.now in
    let old = c.args.types.now in
    let kept = c.args.facts.now in
    let new = c.operand_at.new.types in
    let facts = nodes_seen old kept in
    let handle = c.args.handle in
    let child = child_at nodes handle 0 in
    let row = c.judge_indirection-row in
    let operand : valued_part new c.in_ok-operand.operand ≡ only_expression (fact_at facts child) =
    c.in_ok-operand.ensures.seen ∙ ap (λ handle. only_expression (fact_at facts handle)) c.child_at-child.ensures in
    let standing = c.token_at.ensures ∙ ap (token_at nodes) c.child_at-child.ensures in
    row_taken old new c.in_ok-operand.ensures.keeps c.args.found.now c.take_row.new.found row.result
    (indirection_row (token_at nodes handle) (token_at nodes child) (fact_at facts child)) row.ensures.known c.take_row.result c.take_row.ensures.row
    c.take_row.ensures.failures
    (row.ensures.row
    ∙ (λ i. told (indirection_row (c.token_at-token.ensures i) (standing i) (operand i)))
    ∙ ap told (indirection_only (token_at nodes handle) (token_at nodes child) (fact_at facts child)))
