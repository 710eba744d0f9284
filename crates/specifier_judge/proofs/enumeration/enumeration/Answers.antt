use Rattle.std.proofs.Common.{option_map, sym, ap, subst, ◌∙◌}
use Rattle.meaning_typing.specs.Tags.{tag_broken}
use Rattle.meaning_typing.specs.WholeTyping.{enum_specifier_row}
use Rattle.decl_judge.specs.Units.{nodes_of}
use Rattle.expr_judge.specs.declared.row.NodeRow.{NodeRow}
use Rattle.expr_judge.specs.Rows.{row_seen}
use Rattle.expression_rows.specs.Rows.{broken_seen}
use Rattle.node_facts.specs.Facts.{IsKnownNodeFact, nodes_seen}
use Rattle.specifier_judge.specs.Rows.{kept_tagged}
use Rattle.specifier_judge.proofs.RowLemmas.{tells_enumeration}
use Rattle.specifier_judge.proofs.enumeration.enumeration.Goals as goal

pub returns : goal.returns
returns c =
    let nodes = nodes_of c.args.unit.now in
    let handle = c.args.handle in
    let old = c.args.types.now in
    let new = c.enumeration_row.new.types in
    let broken = c.in_ok-broken.broken in
    let taken = sym c.take_enumeration.ensures in
    tells_enumeration old new c.args.found.now c.append.new.found c.in_ok-row.ensures.keeps c.in_ok-row.row
    (enum_specifier_row nodes (nodes_seen old c.args.facts.now) handle) c.in_ok-row.ensures.row c.in_ok-row.ensures.known c.with_tag.result broken
    (tag_broken nodes handle) c.in_ok-broken.ensures
    (c.with_tag.ensures.seen new ∙ ap (λ (row : NodeRow). kept_tagged (option_map broken_seen broken) (row_seen new row)) (sym taken))
    (c.with_tag.ensures.known new (subst (λ (row : NodeRow). IsKnownNodeFact new row.fact) taken c.in_ok-row.ensures.known.fact))
    c.in_ok-append.ensures
