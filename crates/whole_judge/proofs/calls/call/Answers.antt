use Rattle.std.proofs.Common.{◌≡◌, drop, map, sym, ap, ◌∙◌, subst}
use Rattle.meaning_typing.specs.Facts.{fact_at}
use Rattle.meaning_typing.specs.Rows.{Row}
use Rattle.meaning_typing.specs.Typing.{argument_at, part_fact, part_token, token_at}
use Rattle.meaning_typing.specs.Units.{children_from}
use Rattle.meaning_typing.specs.Wholes.{whole_call_row}
use Rattle.c_tree.specs.Seen.{node_of}
use Rattle.decl_judge.specs.Units.{handles_of, nodes_of}
use Rattle.expression_rows.specs.Arguments.{Appends, argument_seen, without_failures}
use Rattle.expression_rows.specs.Facts.{valued_part}
use Rattle.expression_rows.specs.Rows.{told}
use Rattle.node_facts.specs.Facts.{nodes_seen}
use Rattle.node_facts.proofs.GrowthLemmas.{joins_on, nodes_known, nodes_later}
use Rattle.expr_judge.specs.Parts.{only_arguments, only_expression}
use Rattle.expr_judge.proofs.GrowthLemmas.{appended_later}
use Rattle.expr_judge.proofs.NodeLemmas.{node-is}
use Rattle.expr_judge.proofs.PartLemmas.{value_known, value_later}
use Rattle.expr_judge.proofs.TakenLemmas.{row_taken_behind}
use Rattle.member_rows.specs.Aggregates.{aggregates_in}
use Rattle.member_rows.proofs.AggregateLemmas.{told_is}
use Rattle.whole_judge.proofs.PlaceLemmas.{whole_call_only}
use Rattle.whole_judge.proofs.calls.call.Goals as goal

pub arguments_among-requires-clause-known : goal.arguments_among-requires-clause-known
arguments_among-requires-clause-known c = nodes_known c.args.types.now c.operand_at.new.types c.in_ok-callee.ensures.keeps c.args.facts.now c.requires.ids

pub judge_whole_call-requires-clause-callee : goal.judge_whole_call-requires-clause-callee
judge_whole_call-requires-clause-callee c =
    value_known c.operand_at.new.types c.arguments_among.new.types c.in_ok-arguments.ensures.keeps c.in_ok-callee.callee
    c.in_ok-callee.ensures.valued

pub returns : goal.returns
returns c surroundings =
    let unit = c.args.unit.now in
    let nodes = nodes_of unit in
    let old = c.args.types.now in
    let kept = c.args.facts.now in
    let first = c.operand_at.new.types in
    let between = c.arguments_among.new.types in
    let new = c.judge_whole_call.new.types in
    let facts = nodes_seen old kept in
    let handle = c.args.handle in
    let layouts = (aggregates_in old).told in
    let to_first = c.in_ok-callee.ensures.keeps in
    let to_between = c.in_ok-arguments.ensures.keeps in
    let join = joins_on old first between to_first to_between in
    let layouts_are = join.layouts ∙ sym (told_is old) in
    let node = node-is unit c.requires.whole handle (node_of c.node.result.now) c.node.ensures in
    let callee : valued_part between c.in_ok-callee.callee ≡ only_expression (part_fact nodes facts handle 0) =
    value_later first between to_between c.in_ok-callee.callee c.in_ok-callee.ensures.valued
    ∙ c.in_ok-callee.ensures.seen
    ∙ ap (λ handle. only_expression (fact_at facts handle)) c.child_at-child.ensures in
    let passed = map (argument_at nodes facts) (children_from nodes handle 1) in
    let arguments : map (argument_seen between) c.in_ok-arguments.arguments.items ≡ only_arguments passed =
    c.in_ok-arguments.ensures.seen
    ∙ (λ i. only_arguments (map (argument_at nodes (nodes_later old first to_first kept c.requires.ids i)) (drop 1 (handles_of (sym node i).children)))) in
    let standing = c.token_at-standing.ensures ∙ ap (token_at nodes) c.child_at-child.ensures in
    let meant = whole_call_row layouts (token_at nodes handle) (part_token nodes handle 0) (part_fact nodes facts handle 0) passed in
    let is : whole_call_row _ c.token_at-token.result c.token_at-standing.result (valued_part between c.in_ok-callee.callee) (map (argument_seen between) c.deref.result.now) ≡ meant =
    (λ i. whole_call_row (layouts_are i) (c.token_at-token.ensures i) (standing i) (callee i) ((ap (map (argument_seen between)) c.deref.ensures.value ∙ arguments) i))
    ∙ whole_call_only layouts (token_at nodes handle) (part_token nodes handle 0) (part_fact nodes facts handle 0) passed in
    row_taken_behind old new (joins_on old between new join c.in_ok-row.ensures.keeps)
    c.args.found.now c.take_row.new.found c.in_ok-row.row meant c.in_ok-row.ensures.known c.take_row.result c.judge_whole_call.new.found
    (appended_later between new c.in_ok-row.ensures.keeps c.args.found.now c.judge_whole_call.new.found meant.failures
    (subst (λ (row : Row). Appends between c.args.found.now c.judge_whole_call.new.found row.failures) is c.in_ok-row.ensures.failures))
    c.take_row.ensures.row c.take_row.ensures.failures
    (c.in_ok-row.ensures.row ∙ ap (λ row. told (without_failures row)) is)
