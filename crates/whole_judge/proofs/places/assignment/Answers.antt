use Rattle.std.proofs.Common.{◌≡◌, sym, ap, ◌∙◌, subst}
use Rattle.meaning_typing.specs.Facts.{fact_at}
use Rattle.meaning_typing.specs.Typing.{part_fact, part_token, token_at}
use Rattle.meaning_typing.specs.Wholes.{whole_assignment_row}
use Rattle.decl_judge.specs.Units.{nodes_of}
use Rattle.expression_rows.specs.Facts.{IsKnownPart, part_seen, valued_part}
use Rattle.node_facts.specs.Facts.{nodes_seen}
use Rattle.node_facts.proofs.GrowthLemmas.{nodes_known, nodes_later}
use Rattle.expr_judge.specs.Parts.{only_expression}
use Rattle.expr_judge.proofs.OperatorLemmas.{operator_taken}
use Rattle.expr_judge.proofs.PartLemmas.{part_is, part_known}
use Rattle.member_rows.specs.Aggregates.{aggregates_in}
use Rattle.member_rows.proofs.AggregateLemmas.{aggregates_stay}
use Rattle.whole_rows.proofs.ConstLemmas.{const_aggregates_stay}
use Rattle.whole_judge.proofs.PlaceLemmas.{whole_assignment_only}
use Rattle.whole_judge.proofs.places.assignment.Goals as goal

pub judge_whole_assignment-requires-clause-consts : goal.judge_whole_assignment-requires-clause-consts
judge_whole_assignment-requires-clause-consts c =
    const_aggregates_stay c.args.types.now c.operand_at.new.types c.args.consts.now c.in_ok-right.ensures.keeps c.requires.bodies c.requires.consts

pub judge_whole_assignment-requires-clause-left : goal.judge_whole_assignment-requires-clause-left
judge_whole_assignment-requires-clause-left c =
    let between = c.operand_at.new.types in
    subst (IsKnownPart between) (sym c.expression_at-left.ensures)
    (part_known between c.args.facts.now c.child_at-first.result
    (nodes_known c.args.types.now between c.in_ok-right.ensures.keeps c.args.facts.now c.requires.ids))

pub returns : goal.returns
returns c surroundings =
    let nodes = nodes_of c.args.unit.now in
    let old = c.args.types.now in
    let kept = c.args.facts.now in
    let between = c.operand_at.new.types in
    let facts = nodes_seen old kept in
    let handle = c.args.handle in
    let join = c.in_ok-right.ensures.keeps in
    let aggregates = aggregates_stay old between join c.requires.bodies in
    let left : part_seen between c.expression_at-left.result ≡ only_expression (part_fact nodes facts handle 0) =
    ap (part_seen between) c.expression_at-left.ensures
    ∙ part_is between kept c.child_at-first.result
    ∙ (λ i. only_expression (fact_at (nodes_later old between join kept c.requires.ids i) (c.child_at-first.ensures i))) in
    let right : valued_part between c.in_ok-right.right ≡ only_expression (part_fact nodes facts handle 1) =
    c.in_ok-right.ensures.seen ∙ ap (λ handle. only_expression (fact_at facts handle)) c.child_at-second.ensures in
    let standing = c.token_at-standing.ensures ∙ ap (token_at nodes) c.child_at-second.ensures in
    operator_taken old between c.judge_whole_assignment.new.types join c.in_ok-row.ensures.keeps c.args.found.now c.take_row.new.found c.in_ok-row.row
    c.in_ok-row.ensures.known c.take_row.result c.take_row.ensures.row c.take_row.ensures.failures _
    (whole_assignment_row (aggregates_in old) (token_at nodes handle) (part_token nodes handle 1) (part_fact nodes facts handle 0) (part_fact nodes facts handle 1))
    c.in_ok-row.ensures.row
    ((λ i. whole_assignment_row (aggregates i) (c.token_at-token.ensures i) (standing i) (left i) (right i))
    ∙ whole_assignment_only (aggregates_in old) (token_at nodes handle) (part_token nodes handle 1) (part_fact nodes facts handle 0)
    (part_fact nodes facts handle 1))
