use Rattle.std.proofs.Common.{◌≡◌, sym, ap, ◌∙◌, subst}
use Rattle.meaning_typing.specs.OffsetRows.{ToMember, Walk, offset_by}
use Rattle.meaning_typing.specs.Typing.{token_at}
use Rattle.c_types.specs.Table.{type_at}
use Rattle.c_tree.specs.Seen.{node_of}
use Rattle.decl_judge.specs.Units.{handles_of, nodes_of}
use Rattle.expression_rows.specs.Arguments.{Appends, without_failures}
use Rattle.expression_rows.specs.Rows.{told}
use Rattle.node_facts.specs.Facts.{name_seen, nodes_seen}
use Rattle.node_facts.proofs.GrowthLemmas.{joins_on}
use Rattle.expr_judge.proofs.GrowthLemmas.{appended_later}
use Rattle.expr_judge.proofs.NodeLemmas.{node-is}
use Rattle.expr_judge.proofs.TakenLemmas.{row_taken_behind}
use Rattle.member_rows.specs.Aggregates.{aggregates_in}
use Rattle.member_rows.specs.Steps.{IsWalked, first_reached, reached_seen, walk_told}
use Rattle.meaning_typing.specs.OffsetRows as meaning
use Rattle.whole_judge.specs.Walks.{steps_behind, walk_in, whole_walk}
use Rattle.whole_judge.proofs.offsets.offset_in.Goals as goal

pub returns : goal.returns
returns c =
    let unit = c.args.unit.now in
    let nodes = nodes_of unit in
    let old = c.args.types.now in
    let between = c.walk_along.new.types in
    let new = c.judge_offset.new.types in
    let facts = nodes_seen old c.args.facts.now in
    let handle = c.args.handle in
    let aggregates = aggregates_in old in
    let own = node_of c.node-node.result.now in
    let node = node-is unit c.requires.whole handle own c.node-node.ensures in
    let from = first_reached c.args.of in
    let begin = reached_seen old from in
    let step = ToMember own.token (name_seen own.name) in
    let is = c.step_to_member-first.ensures.step
    ∙ ap (λ reached. walk_told (meaning.step_to aggregates (reached_seen old reached) step)) c.begin.ensures in
    let meant = walk_in aggregates nodes facts handle (type_at old c.args.of) in
    let same : whole_walk aggregates step (steps_behind nodes facts (handles_of own.children)) begin ≡ meant =
    (λ i. whole_walk aggregates (ToMember (sym node i).token (sym node i).name) (steps_behind nodes facts (handles_of (sym node i).children)) begin) in
    let broken = c.in_ok-walked.walked.broken in
    let reached = c.in_ok-walked.walked.reached in
    let walked = subst (λ (walk : Walk). IsWalked between broken reached walk) same (c.in_ok-walked.ensures.walked step begin is) in
    let failures =
    subst (λ (walk : Walk). Appends between c.args.found.now c.walk_along.new.found walk.failures) same (c.in_ok-walked.ensures.failures step begin is) in
    let token : own.token ≡ token_at nodes handle = ap (λ n. n.token) (sym node) in
    let row = offset_by (token_at nodes handle) meant in
    let to_between = c.in_ok-walked.ensures.keeps in
    row_taken_behind old new (joins_on old between new to_between c.in_ok-row.ensures.keeps) c.args.found.now c.take_row.new.found c.in_ok-row.row row
    c.in_ok-row.ensures.known c.take_row.result c.walk_along.new.found
    (appended_later between new c.in_ok-row.ensures.keeps c.args.found.now c.walk_along.new.found row.failures failures)
    c.take_row.ensures.row c.take_row.ensures.failures
    (c.in_ok-row.ensures.row meant walked ∙ ap (λ token. told (without_failures (offset_by token meant))) token)
