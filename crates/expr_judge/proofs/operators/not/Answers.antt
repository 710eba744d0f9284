use Rattle.std.proofs.Common.{◌∙◌}
use Rattle.meaning_typing.specs.Typing.{part_fact, part_token, token_at}
use Rattle.decl_judge.specs.Units.{nodes_of}
use Rattle.meaning_typing.specs.Operators.{not_row}
use Rattle.node_facts.specs.Facts.{nodes_seen}
use Rattle.expr_judge.proofs.OperandLemmas.{not_only}
use Rattle.expr_judge.proofs.OperatorLemmas.{operator_taken}
use Rattle.expr_judge.proofs.operators.not.Goals as goal

pub returns : goal.returns
returns c =
    let nodes = nodes_of c.args.unit.now in
    let old = c.args.types.now in
    let kept = c.args.facts.now in
    let between = c.operand_of.new.types in
    let facts = nodes_seen old kept in
    let handle = c.args.handle in
    let is = c.in_ok-one.ensures.operand in
    let token = token_at nodes handle in
    let standing = part_token nodes handle 0 in
    let fact = part_fact nodes facts handle 0 in
    operator_taken old between c.judge_not.new.types c.in_ok-one.ensures.keeps c.in_ok-row.ensures.keeps c.args.found.now c.take_row.new.found c.in_ok-row.row
    c.in_ok-row.ensures.known c.take_row.result c.take_row.ensures.row c.take_row.ensures.failures _ (not_row token standing fact)
    c.in_ok-row.ensures.row
    ((λ i. not_row (is.token i) (is.standing i) (is.seen i)) ∙ not_only token standing fact)
