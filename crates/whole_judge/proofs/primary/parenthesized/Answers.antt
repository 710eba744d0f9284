use Rattle.std.proofs.Common.{None, refl, sym, ap, subst, ◌∙◌}
use Rattle.meaning_typing.specs.Facts.{fact_at}
use Rattle.meaning_typing.specs.Rows.{known}
use Rattle.meaning_typing.specs.Typing.{part_fact}
use Rattle.decl_judge.specs.Units.{nodes_of}
use Rattle.node_facts.specs.Facts.{nodes_seen}
use Rattle.expr_judge.specs.declared.row.NodeRow.{NodeRow}
use Rattle.expr_judge.specs.Rows.{SaysOnly, known_row}
use Rattle.expr_judge.proofs.PartLemmas.{kept-is, known_at}
use Rattle.whole_judge.proofs.primary.parenthesized.Goals as goal

pub returns : goal.returns
returns c =
    let nodes = nodes_of c.args.unit.now in
    let table = c.args.types.now in
    let kept = c.args.facts.now in
    let facts = nodes_seen table kept in
    let child = c.child_at.result in
    let seen = kept-is table kept child ∙ ap (fact_at facts) c.child_at.ensures in
    subst (λ (row : NodeRow). SaysOnly table row (known (part_fact nodes facts c.args.handle 0))) (sym (c.known.ensures ∙ ap known_row c.at.ensures))
    (record { row = λ i. record { fact = seen i; broken = None; passed = None }; ids = known_at table kept child c.requires.ids; silent = refl })
