use Rattle.std.proofs.Common.{◌≡◌, sym, ap, ◌∙◌}
use Rattle.meaning_typing.specs.Facts.{fact_at}
use Rattle.meaning_typing.specs.Typing.{part_fact, part_token, token_at}
use Rattle.meaning_typing.specs.Wholes.{whole_subscript_row}
use Rattle.decl_judge.specs.Units.{nodes_of}
use Rattle.expression_rows.specs.Facts.{valued_part}
use Rattle.node_facts.specs.Facts.{nodes_seen}
use Rattle.node_facts.proofs.GrowthLemmas.{joins_none}
use Rattle.expr_judge.specs.Parts.{only_expression}
use Rattle.expr_judge.proofs.OperatorLemmas.{operator_taken}
use Rattle.member_rows.specs.Aggregates.{aggregates_in}
use Rattle.member_rows.proofs.AggregateLemmas.{told_is}
use Rattle.whole_judge.proofs.PlaceLemmas.{whole_subscript_only}
use Rattle.whole_judge.proofs.places.subscript.Goals as goal

pub returns : goal.returns
returns c surroundings =
    let nodes = nodes_of c.args.unit.now in
    let old = c.args.types.now in
    let new = c.operands_at.new.types in
    let facts = nodes_seen old c.args.facts.now in
    let handle = c.args.handle in
    let row = c.judge_whole_subscript-row in
    let told = c.in_ok-left.ensures.keeps.layouts ∙ sym (told_is old) in
    let left : valued_part new c.in_ok-left.left ≡ only_expression (part_fact nodes facts handle 0) =
    c.in_ok-left.ensures.first ∙ ap (λ handle. only_expression (fact_at facts handle)) c.child_at-first.ensures in
    let right : valued_part new c.in_ok-left.right ≡ only_expression (part_fact nodes facts handle 1) =
    c.in_ok-left.ensures.second ∙ ap (λ handle. only_expression (fact_at facts handle)) c.child_at-second.ensures in
    let standing = c.token_at-2.ensures ∙ ap (token_at nodes) c.child_at-first.ensures in
    let behind = c.token_at-3.ensures ∙ ap (token_at nodes) c.child_at-second.ensures in
    let layouts = (aggregates_in old).told in
    operator_taken old new new c.in_ok-left.ensures.keeps (joins_none new) c.args.found.now c.take_row.new.found row.result row.ensures.known
    c.take_row.result c.take_row.ensures.row c.take_row.ensures.failures _
    (whole_subscript_row layouts (token_at nodes handle) (part_token nodes handle 0) (part_token nodes handle 1) (part_fact nodes facts handle 0)
    (part_fact nodes facts handle 1)) row.ensures.row
    ((λ i. whole_subscript_row (told i) (c.token_at.ensures i) (standing i) (behind i) (left i) (right i))
    ∙ whole_subscript_only layouts (token_at nodes handle) (part_token nodes handle 0) (part_token nodes handle 1) (part_fact nodes facts handle 0)
    (part_fact nodes facts handle 1))
