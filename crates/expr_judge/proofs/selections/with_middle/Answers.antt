use Rattle.std.proofs.Common.{◌≡◌, ap, ◌∙◌}
use Rattle.meaning_typing.specs.Conditionals.{conditional_row}
use Rattle.meaning_typing.specs.Facts.{fact_at}
use Rattle.meaning_typing.specs.Typing.{part_fact, part_token, token_at}
use Rattle.decl_judge.specs.Units.{nodes_of}
use Rattle.expression_rows.specs.Facts.{valued_part}
use Rattle.node_facts.specs.Facts.{nodes_seen}
use Rattle.expr_judge.specs.Operators.{conditional_with}
use Rattle.expr_judge.specs.Parts.{only_expression}
use Rattle.node_facts.proofs.GrowthLemmas.{joins_on, nodes_known, nodes_later}
use Rattle.expr_judge.proofs.OperandLemmas.{conditional_only, operands_later}
use Rattle.expr_judge.proofs.OperatorLemmas.{operator_taken}
use Rattle.expr_judge.proofs.selections.with_middle.Goals as goal

pub operand_at-requires : goal.operand_at-requires
operand_at-requires c = nodes_known c.args.types.now c.operands_of.new.types c.in_ok-two.ensures.keeps c.args.facts.now c.requires.known

pub judge_conditional-requires-clause-condition : goal.judge_conditional-requires-clause-condition
judge_conditional-requires-clause-condition c =
    (operands_later (nodes_of c.args.unit.now) (nodes_seen c.args.types.now c.args.facts.now) c.args.handle c.operands_of.new.types c.operand_at.new.types c.in_ok-two.two
    c.in_ok-right.ensures.keeps c.in_ok-two.ensures.operands).left_valued

pub judge_conditional-requires-clause-left : goal.judge_conditional-requires-clause-left
judge_conditional-requires-clause-left c =
    (operands_later (nodes_of c.args.unit.now) (nodes_seen c.args.types.now c.args.facts.now) c.args.handle c.operands_of.new.types c.operand_at.new.types c.in_ok-two.two
    c.in_ok-right.ensures.keeps c.in_ok-two.ensures.operands).right_valued

pub returns : goal.returns
returns c =
    let nodes = nodes_of c.args.unit.now in
    let old = c.args.types.now in
    let kept = c.args.facts.now in
    let middle = c.operands_of.new.types in
    let between = c.operand_at.new.types in
    let facts = nodes_seen old kept in
    let handle = c.args.handle in
    let first = c.in_ok-two.ensures.keeps in
    let are = operands_later nodes facts handle middle between c.in_ok-two.two c.in_ok-right.ensures.keeps c.in_ok-two.ensures.operands in
    let third = c.token_at.ensures ∙ ap (token_at nodes) c.child_at-child.ensures in
    let right : valued_part between c.in_ok-right.right ≡ only_expression (part_fact nodes facts handle 2) =
    c.in_ok-right.ensures.seen
    ∙ (λ i. only_expression (fact_at (nodes_later old middle first kept c.requires.known i) (c.child_at-child.ensures i))) in
    operator_taken old between c.judge_conditional.new.types (joins_on old middle between first c.in_ok-right.ensures.keeps) c.in_ok-row.ensures.keeps
    c.args.found.now c.take_row.new.found c.in_ok-row.row c.in_ok-row.ensures.known c.take_row.result c.take_row.ensures.row c.take_row.ensures.failures
    _ (conditional_with nodes facts handle) c.in_ok-row.ensures.row
    ((λ i. conditional_row (are.token i) (are.first i) (are.second i) (third i) (are.left i) (are.right i) (right i))
    ∙ conditional_only (token_at nodes handle) (part_token nodes handle 0) (part_token nodes handle 1) (part_token nodes handle 2)
    (part_fact nodes facts handle 0) (part_fact nodes facts handle 1) (part_fact nodes facts handle 2))
