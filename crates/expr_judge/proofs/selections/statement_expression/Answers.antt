use Rattle.std.proofs.Common.{◌≡◌, option_map, ap, ◌∙◌}
use Rattle.meaning_typing.specs.Operators.{statement_expression_row}
use Rattle.meaning_typing.specs.Typing.{last_statement, last_value}
use Rattle.meaning_typing.specs.Units.{child_at}
use Rattle.decl_judge.specs.Units.{nodes_of}
use Rattle.expression_rows.specs.Parts.{returned_seen}
use Rattle.node_facts.specs.Facts.{nodes_seen}
use Rattle.expr_judge.specs.Parts.{only_expression}
use Rattle.expr_judge.proofs.OperandLemmas.{statement_only}
use Rattle.expr_judge.proofs.OperatorLemmas.{operator_taken}
use Rattle.expr_judge.proofs.selections.statement_expression.Goals as goal

pub returns : goal.returns
returns c =
    let nodes = nodes_of c.args.unit.now in
    let old = c.args.types.now in
    let kept = c.args.facts.now in
    let between = c.last_value.new.types in
    let facts = nodes_seen old kept in
    let statement = last_statement nodes (child_at nodes c.args.handle 0) in
    let last = last_value nodes facts statement in
    let is = c.last_statement-statement.ensures ∙ ap (last_statement nodes) c.child_at.ensures in
    let value : returned_seen between c.in_ok-value.value ≡ option_map only_expression last =
    c.in_ok-value.ensures.seen ∙ ap (λ handle. option_map only_expression (last_value nodes facts handle)) is in
    operator_taken old between c.judge_statement_expression.new.types c.in_ok-value.ensures.keeps c.in_ok-row.ensures.keeps c.args.found.now c.take_row.new.found
    c.in_ok-row.row c.in_ok-row.ensures.known c.take_row.result c.take_row.ensures.row c.take_row.ensures.failures _ (statement_expression_row last)
    c.in_ok-row.ensures.row
    (ap statement_expression_row value ∙ statement_only last)
