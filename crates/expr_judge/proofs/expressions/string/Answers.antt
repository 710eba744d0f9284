use Rattle.std.proofs.Common.{sym, ap, ◌∙◌}
use Rattle.meaning_typing.specs.Expressions.{string_row}
use Rattle.meaning_typing.specs.Units.{node_at}
use Rattle.c_tree.specs.Seen.{node_of}
use Rattle.decl_judge.specs.Units.{nodes_of}
use Rattle.expression_rows.specs.Rows.{told}
use Rattle.expr_judge.proofs.NodeLemmas.{node-is}
use Rattle.expr_judge.proofs.TakenLemmas.{row_taken}
use Rattle.expr_judge.proofs.expressions.string.Goals as goal

pub returns : goal.returns
returns c =
    let unit = c.args.unit.now in
    let old = c.args.types.now in
    let new = c.judge_string.new.types in
    let handle = c.args.handle in
    row_taken old new (c.in_ok-row.ensures.keeps) c.args.found.now c.take_row.new.found c.in_ok-row.row
    (string_row (node_at (nodes_of unit) handle).number) c.in_ok-row.ensures.known c.take_row.result c.take_row.ensures.row c.take_row.ensures.failures
    (c.in_ok-row.ensures.row
    ∙ ap (λ node. told (string_row node.number)) (sym (node-is unit c.requires.whole handle (node_of c.node.result.now) c.node.ensures)))
