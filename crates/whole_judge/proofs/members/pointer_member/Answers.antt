use Rattle.std.proofs.Common.{◌≡◌, sym, ap, ◌∙◌}
use Rattle.meaning_typing.specs.Facts.{fact_at}
use Rattle.meaning_typing.specs.Members.{pointer_member_row}
use Rattle.meaning_typing.specs.Typing.{part_fact, part_token, token_at}
use Rattle.meaning_typing.specs.Units.{node_at}
use Rattle.c_tree.specs.Seen.{node_of}
use Rattle.decl_judge.specs.Units.{nodes_of}
use Rattle.expression_rows.specs.Facts.{valued_part}
use Rattle.node_facts.specs.Facts.{nodes_seen}
use Rattle.expr_judge.specs.Parts.{only_expression}
use Rattle.expr_judge.proofs.NodeLemmas.{node-is}
use Rattle.expr_judge.proofs.OperatorLemmas.{operator_taken}
use Rattle.member_rows.specs.Aggregates.{aggregates_in}
use Rattle.member_rows.proofs.AggregateLemmas.{aggregates_stay}
use Rattle.whole_judge.proofs.PlaceLemmas.{pointer_only}
use Rattle.whole_judge.proofs.members.pointer_member.Goals as goal

pub returns : goal.returns
returns c surroundings =
    let unit = c.args.unit.now in
    let nodes = nodes_of unit in
    let old = c.args.types.now in
    let between = c.operand_at.new.types in
    let facts = nodes_seen old c.args.facts.now in
    let handle = c.args.handle in
    let join = c.in_ok-operand.ensures.keeps in
    let aggregates = aggregates_stay old between join c.requires.bodies in
    let operand : valued_part between c.in_ok-operand.operand ≡ only_expression (part_fact nodes facts handle 0) =
    c.in_ok-operand.ensures.seen ∙ ap (λ handle. only_expression (fact_at facts handle)) c.child_at-child.ensures in
    let standing = c.token_at-standing.ensures ∙ ap (token_at nodes) c.child_at-child.ensures in
    let name = ap (λ n. n.name) (sym (node-is unit c.requires.whole handle (node_of c.node.result.now) c.node.ensures)) in
    let token = token_at nodes handle in
    let second = part_token nodes handle 0 in
    let spelled = (node_at nodes handle).name in
    let fact = part_fact nodes facts handle 0 in
    operator_taken old between c.judge_pointer_member.new.types join c.in_ok-row.ensures.keeps c.args.found.now c.take_row.new.found c.in_ok-row.row
    c.in_ok-row.ensures.known c.take_row.result c.take_row.ensures.row c.take_row.ensures.failures _
    (pointer_member_row (aggregates_in old) token second spelled fact) c.in_ok-row.ensures.row
    ((λ i. pointer_member_row (aggregates i) (c.token_at-token.ensures i) (standing i) (name i) (operand i))
    ∙ pointer_only (aggregates_in old) token second spelled fact)
