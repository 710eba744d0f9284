use Rattle.std.proofs.Common.{◌≡◌, ap, subst, ◌∙◌}
use Rattle.meaning_typing.specs.Facts.{fact_at}
use Rattle.meaning_typing.specs.Typing.{part_fact}
use Rattle.meaning_typing.specs.WholeTyping.{assertion_row}
use Rattle.decl_judge.specs.Units.{nodes_of}
use Rattle.decl_judge.proofs.AskedLemmas.{seen_at}
use Rattle.node_facts.specs.Facts.{node_seen, nodes_seen}
use Rattle.expr_judge.specs.Rows.{SaysOnly}
use Rattle.declaration_judge.proofs.AssertionLemmas.{says_asserted}
use Rattle.declaration_judge.proofs.assertion.static_assertion.Goals as goal

pub returns : goal.returns
returns c =
    let nodes = nodes_of c.args.unit.now in
    let table = c.args.types.now in
    let kept = c.args.facts.now in
    let asserted : node_seen table c.at-asserted.result ≡ part_fact nodes (nodes_seen table kept) c.args.handle 0 =
    ap (node_seen table) c.at-asserted.ensures ∙ seen_at table kept c.child_at.result ∙ ap (fact_at (nodes_seen table kept)) c.child_at.ensures in
    subst (SaysOnly table c.breaks.result) (λ i. assertion_row (c.token_at.ensures i) (asserted i))
    (says_asserted c.token_at.result table c.breaks.result c.assertion_broken.result (node_seen table c.at-asserted.result) c.breaks.ensures
    c.assertion_broken.ensures)
