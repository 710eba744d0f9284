use Rattle.std.proofs.Common.{◌≡◌, sym, ap, ◌∙◌, subst}
use Rattle.meaning_typing.specs.Facts.{fact_at}
use Rattle.meaning_typing.specs.Members.{member_row}
use Rattle.meaning_typing.specs.Typing.{part_fact, part_token, token_at}
use Rattle.meaning_typing.specs.Units.{node_at}
use Rattle.c_tree.specs.Seen.{node_of}
use Rattle.decl_judge.specs.Units.{nodes_of}
use Rattle.expression_rows.specs.Facts.{IsKnownPart, part_seen}
use Rattle.node_facts.specs.Facts.{nodes_seen}
use Rattle.node_facts.proofs.GrowthLemmas.{joins_none}
use Rattle.expr_judge.specs.Parts.{only_expression}
use Rattle.expr_judge.proofs.NodeLemmas.{node-is}
use Rattle.expr_judge.proofs.OperatorLemmas.{operator_taken}
use Rattle.expr_judge.proofs.PartLemmas.{part_is, part_known}
use Rattle.member_rows.specs.Aggregates.{aggregates_in}
use Rattle.whole_judge.proofs.PlaceLemmas.{member_only}
use Rattle.whole_judge.proofs.members.member.Goals as goal

pub judge_member-requires : goal.judge_member-requires
judge_member-requires c =
    let old = c.args.types.now in
    subst (IsKnownPart old) (sym c.expression_at-operand.ensures) (part_known old c.args.facts.now c.child_at-child.result c.requires.ids)

pub returns : goal.returns
returns c surroundings =
    let unit = c.args.unit.now in
    let nodes = nodes_of unit in
    let old = c.args.types.now in
    let kept = c.args.facts.now in
    let facts = nodes_seen old kept in
    let handle = c.args.handle in
    let aggregates = aggregates_in old in
    let operand : part_seen old c.expression_at-operand.result ≡ only_expression (part_fact nodes facts handle 0) =
    ap (part_seen old) c.expression_at-operand.ensures
    ∙ part_is old kept c.child_at-child.result
    ∙ ap (λ handle. only_expression (fact_at facts handle)) c.child_at-child.ensures in
    let standing = c.token_at-standing.ensures ∙ ap (token_at nodes) c.child_at-child.ensures in
    let name = ap (λ n. n.name) (sym (node-is unit c.requires.whole handle (node_of c.node.result.now) c.node.ensures)) in
    let token = token_at nodes handle in
    let second = part_token nodes handle 0 in
    let spelled = (node_at nodes handle).name in
    let fact = part_fact nodes facts handle 0 in
    operator_taken old old c.judge_member.new.types (joins_none old) c.in_ok-row.ensures.keeps c.args.found.now c.take_row.new.found c.in_ok-row.row
    c.in_ok-row.ensures.known c.take_row.result c.take_row.ensures.row c.take_row.ensures.failures _ (member_row aggregates token second spelled fact)
    c.in_ok-row.ensures.row
    ((λ i. member_row aggregates (c.token_at-token.ensures i) (standing i) (name i) (operand i)) ∙ member_only aggregates token second spelled fact)
