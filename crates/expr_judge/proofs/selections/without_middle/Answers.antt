use Rattle.std.proofs.Common.{◌∙◌}
use Rattle.meaning_typing.specs.Conditionals.{conditional_row}
use Rattle.meaning_typing.specs.Typing.{part_fact, part_token, token_at}
use Rattle.decl_judge.specs.Units.{nodes_of}
use Rattle.node_facts.specs.Facts.{nodes_seen}
use Rattle.expr_judge.specs.Operators.{conditional_without}
use Rattle.expr_judge.proofs.OperandLemmas.{conditional_only}
use Rattle.expr_judge.proofs.OperatorLemmas.{operator_taken}
use Rattle.expr_judge.proofs.selections.without_middle.Goals as goal

pub returns : goal.returns
returns c =
    let nodes = nodes_of c.args.unit.now in
    let old = c.args.types.now in
    let kept = c.args.facts.now in
    let between = c.operands_of.new.types in
    let facts = nodes_seen old kept in
    let handle = c.args.handle in
    let are = c.in_ok-two.ensures.operands in
    let first = part_token nodes handle 0 in
    let condition = part_fact nodes facts handle 0 in
    operator_taken old between c.judge_conditional.new.types c.in_ok-two.ensures.keeps c.in_ok-row.ensures.keeps c.args.found.now c.take_row.new.found c.in_ok-row.row
    c.in_ok-row.ensures.known c.take_row.result c.take_row.ensures.row c.take_row.ensures.failures _ (conditional_without nodes facts handle)
    c.in_ok-row.ensures.row
    ((λ i. conditional_row (are.token i) (are.first i) (are.first i) (are.second i) (are.left i) (are.left i) (are.right i))
    ∙ conditional_only (token_at nodes handle) first first (part_token nodes handle 1) condition condition (part_fact nodes facts handle 1))
