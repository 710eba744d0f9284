use Rattle.std.proofs.Common.{ap, ◌∙◌}
use Rattle.meaning_typing.specs.Typing.{part_fact}
use Rattle.decl_judge.specs.Units.{nodes_of}
use Rattle.meaning_typing.specs.Facts.{fact_at}
use Rattle.meaning_typing.specs.Operators.{comma_row}
use Rattle.node_facts.specs.Facts.{nodes_seen}
use Rattle.expr_judge.specs.Parts.{only_expression}
use Rattle.expr_judge.proofs.OperandLemmas.{comma_only}
use Rattle.expr_judge.proofs.OperatorLemmas.{operator_taken}
use Rattle.expr_judge.proofs.operators.comma.Goals as goal

pub returns : goal.returns
returns c =
    let nodes = nodes_of c.args.unit.now in
    let old = c.args.types.now in
    let kept = c.args.facts.now in
    let between = c.operand_at.new.types in
    let facts = nodes_seen old kept in
    let handle = c.args.handle in
    let fact = part_fact nodes facts handle 1 in
    operator_taken old between c.judge_comma.new.types c.in_ok-right.ensures.keeps c.in_ok-row.ensures.keeps c.args.found.now c.take_row.new.found c.in_ok-row.row
    c.in_ok-row.ensures.known c.take_row.result c.take_row.ensures.row c.take_row.ensures.failures _ (comma_row fact) c.in_ok-row.ensures.row
    (ap comma_row (c.in_ok-right.ensures.seen ∙ ap (λ handle. only_expression (fact_at facts handle)) c.child_at.ensures) ∙ comma_only fact)
