use Rattle.std.proofs.Common.{sym, ap, ◌∙◌}
use Rattle.meaning_typing.specs.Casts.{sizeof_row}
use Rattle.meaning_typing.specs.Facts.{fact_at}
use Rattle.meaning_typing.specs.Typing.{part_fact, token_at}
use Rattle.decl_judge.specs.Units.{nodes_of}
use Rattle.node_facts.specs.Facts.{node_seen, nodes_seen}
use Rattle.node_facts.proofs.GrowthLemmas.{joins_none}
use Rattle.expr_judge.proofs.OperatorLemmas.{operator_taken}
use Rattle.expr_judge.proofs.PartLemmas.{kept-is}
use Rattle.member_rows.specs.Aggregates.{aggregates_in}
use Rattle.member_rows.proofs.AggregateLemmas.{told_is}
use Rattle.whole_judge.proofs.operators.size.Goals as goal

pub returns : goal.returns
returns c =
    let nodes = nodes_of c.args.unit.now in
    let old = c.args.types.now in
    let kept = c.args.facts.now in
    let facts = nodes_seen old kept in
    let handle = c.args.handle in
    let told = sym (told_is old) in
    let part = ap (node_seen old) c.at-part.ensures ∙ kept-is old kept c.child_at.result ∙ ap (fact_at facts) c.child_at.ensures in
    operator_taken old old c.judge_size.new.types (joins_none old) c.in_ok-row.ensures.keeps c.args.found.now c.take_row.new.found c.in_ok-row.row
    c.in_ok-row.ensures.known c.take_row.result c.take_row.ensures.row c.take_row.ensures.failures _
    (sizeof_row (aggregates_in old).told (token_at nodes handle) (part_fact nodes facts handle 0)) c.in_ok-row.ensures.row
    (λ i. sizeof_row (told i) (c.token_at.ensures i) (part i))
