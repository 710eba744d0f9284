use Rattle.std.proofs.Common.{sym, ap, ◌∙◌}
use Rattle.meaning_rules.specs.Rules.{least_broken}
use Rattle.meaning_typing.specs.DeclarationRows.{tentative_of}
use Rattle.meaning_typing.specs.Units.{kind_at, node_at}
use Rattle.c_types.specs.Layouts.{told_in}
use Rattle.decl_judge.specs.Units.{nodes_of}
use Rattle.decl_judge.proofs.AskedLemmas.{seen_at}
use Rattle.node_facts.specs.Facts.{node_seen, nodes_seen}
use Rattle.declaration_rows.specs.Kept.{declared_by}
use Rattle.declaration_rows.proofs.tentative.node_at_end.Goals as goal

pub returns-in-Declared : goal.returns-in-Declared
returns-in-Declared c =
    let table = c.args.types.now in
    let nodes = nodes_of c.args.unit.now in
    let kept = c.args.facts.now in
    let fact =
    ap (node_seen table) (sym c.in-Declared.is)
    ∙ c.fact_of_declarator.ensures.seen table
    ∙ ap (declared_by (kind_at nodes c.args.handle)) (ap (node_seen table) c.at.ensures ∙ seen_at table kept c.args.handle) in
    c.declaration_at_end.ensures
    ∙ (λ i. least_broken
    (tentative_of (told_in table) nodes (nodes_seen table kept) (node_at nodes c.args.handle).token (c.standing_at-surrounding.ensures i) (fact i)))
