use Rattle.std.proofs.Common.{◌≡◌, option_map, sym, ap, ◌∙◌}
use Rattle.meaning_typing.specs.Statements.{result_around, return_row}
use Rattle.meaning_typing.specs.Typing.{first_fact, token_at}
use Rattle.meaning_typing.specs.Units.{child_at, children_at}
use Rattle.c_tree.specs.Seen.{node_of}
use Rattle.c_types.specs.Table.{type_at}
use Rattle.decl_judge.specs.Units.{handles_of, nodes_of}
use Rattle.expression_rows.specs.Parts.{returned_seen}
use Rattle.expression_rows.specs.Rows.{told}
use Rattle.node_facts.specs.Facts.{nodes_seen}
use Rattle.node_surroundings.specs.Seen.{surroundings_seen}
use Rattle.expr_judge.specs.Parts.{only_expression}
use Rattle.expr_judge.proofs.GrowthLemmas.{types_later}
use Rattle.expr_judge.proofs.NodeLemmas.{node-is}
use Rattle.expr_judge.proofs.PartLemmas.{return_only}
use Rattle.expr_judge.proofs.TakenLemmas.{row_taken}
use Rattle.expr_judge.proofs.TellingLemmas.{told_as}
use Rattle.node_judge.proofs.RowLemmas.{return_told}
use Rattle.node_judge.proofs.statements.return_statement.Goals as goal

pub returns : goal.returns
returns c =
    let unit = c.args.unit.now in
    let nodes = nodes_of unit in
    let surroundings = surroundings_seen c.args.surroundings.now in
    let old = c.args.types.now in
    let new = c.returned_among.new.types in
    let list = c.args.facts.now in
    let facts = nodes_seen old list in
    let handle = c.args.handle in
    let child = child_at nodes handle 0 in
    let function = c.get.result.around.function in
    let result = result_around nodes facts function in
    let row = c.judge_return-row in
    let node = node-is unit c.requires.whole handle (node_of c.node.result.now) c.node.ensures in
    let fact = first_fact facts (children_at nodes handle) in
    let value : returned_seen new c.in_ok-value.value ≡ option_map only_expression fact =
    c.in_ok-value.ensures.seen ∙ ap (λ node. option_map only_expression (first_fact facts (handles_of node.children))) (sym node) in
    let answer : option_map (type_at new) c.result_around-answer.result ≡ result =
    types_later old new c.in_ok-value.ensures.keeps c.result_around-answer.result c.result_around-answer.ensures.known
    ∙ c.result_around-answer.ensures.seen in
    let standing = c.token_at-standing.ensures ∙ ap (token_at nodes) c.child_at.ensures in
    told_as old new c.take_row.result _ _
    (ap (λ surrounding. return_row (token_at nodes handle) (token_at nodes child) fact (result_around nodes facts surrounding.around.function)) c.get.ensures.seen
    ∙ return_told nodes surroundings old list handle)
    c.args.found.now c.take_row.new.found
    (row_taken old new c.in_ok-value.ensures.keeps c.args.found.now c.take_row.new.found row.result
    (return_row (token_at nodes handle) (token_at nodes child) fact result) row.ensures.known c.take_row.result c.take_row.ensures.row
    c.take_row.ensures.failures
    (row.ensures.row
    ∙ (λ i. told (return_row (c.token_at-token.ensures i) (standing i) (value i) (answer i)))
    ∙ ap told (return_only (token_at nodes handle) (token_at nodes child) fact result)))
