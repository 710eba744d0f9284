use Rattle.std.proofs.Common.{◌∙◌}
use Rattle.meaning_typing.specs.Typing.{part_fact, part_token}
use Rattle.decl_judge.specs.Units.{nodes_of}
use Rattle.meaning_typing.specs.Casts.{expect_row}
use Rattle.node_facts.specs.Facts.{nodes_seen}
use Rattle.expr_judge.proofs.OperandLemmas.{expect_only}
use Rattle.expr_judge.proofs.OperatorLemmas.{operator_taken}
use Rattle.expr_judge.proofs.operators.expect.Goals as goal

pub returns : goal.returns
returns c =
    let nodes = nodes_of c.args.unit.now in
    let old = c.args.types.now in
    let kept = c.args.facts.now in
    let between = c.operands_of.new.types in
    let facts = nodes_seen old kept in
    let handle = c.args.handle in
    let are = c.in_ok-two.ensures.operands in
    let first = part_token nodes handle 0 in
    let second = part_token nodes handle 1 in
    let left = part_fact nodes facts handle 0 in
    let right = part_fact nodes facts handle 1 in
    operator_taken old between c.judge_expect.new.types c.in_ok-two.ensures.keeps c.in_ok-row.ensures.keeps c.args.found.now c.take_row.new.found c.in_ok-row.row
    c.in_ok-row.ensures.known c.take_row.result c.take_row.ensures.row c.take_row.ensures.failures _ (expect_row first second left right)
    c.in_ok-row.ensures.row
    ((λ i. expect_row (are.first i) (are.second i) (are.left i) (are.right i)) ∙ expect_only first second left right)
