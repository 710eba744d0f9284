use Rattle.std.proofs.Common.{sym, ◌∙◌}
use Rattle.meaning_typing.specs.Operators.{binary_row}
use Rattle.meaning_typing.specs.Typing.{part_fact, part_token, token_at}
use Rattle.decl_judge.specs.Units.{nodes_of}
use Rattle.node_facts.specs.Facts.{nodes_seen}
use Rattle.expr_judge.proofs.OperandLemmas.{binary_only}
use Rattle.expr_judge.proofs.OperatorLemmas.{operator_taken}
use Rattle.member_rows.specs.Aggregates.{aggregates_in}
use Rattle.member_rows.proofs.AggregateLemmas.{told_is}
use Rattle.whole_judge.proofs.operators.binary.Goals as goal

pub returns : goal.returns
returns c =
    let nodes = nodes_of c.args.unit.now in
    let old = c.args.types.now in
    let between = c.operands_of.new.types in
    let facts = nodes_seen old c.args.facts.now in
    let handle = c.args.handle in
    let are = c.in_ok-two.ensures.operands in
    let join = c.in_ok-two.ensures.keeps in
    let told = join.layouts ∙ sym (told_is old) in
    let layouts = (aggregates_in old).told in
    let token = token_at nodes handle in
    let first = part_token nodes handle 0 in
    let second = part_token nodes handle 1 in
    let left = part_fact nodes facts handle 0 in
    let right = part_fact nodes facts handle 1 in
    operator_taken old between c.judge_binary.new.types join c.in_ok-row.ensures.keeps c.args.found.now c.take_row.new.found c.in_ok-row.row
    c.in_ok-row.ensures.known c.take_row.result c.take_row.ensures.row c.take_row.ensures.failures _
    (binary_row layouts c.args.op token first second left right) c.in_ok-row.ensures.row
    ((λ i. binary_row (told i) c.args.op (are.token i) (are.first i) (are.second i) (are.left i) (are.right i))
    ∙ binary_only c.args.op token first second layouts left right)
