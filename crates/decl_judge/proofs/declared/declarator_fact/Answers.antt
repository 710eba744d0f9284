use Rattle.std.proofs.Common.{◌≡◌, Some, IfOk, option_map, sym, ap, ◌∙◌, subst}
use Rattle.meaning_typing.specs.Declarators as meaning
use Rattle.meaning_typing.specs.Facts.{Fact}
use Rattle.meaning_typing.specs.Units.{node_at}
use Rattle.c_tree.specs.Seen.{node_of}
use Rattle.node_facts.specs.Facts.{node_seen, nodes_seen, specified_seen}
use Rattle.decl_judge.specs.Placed.{declared_behind, standing}
use Rattle.decl_judge.specs.Units.{named_node, nodes_of}
use Rattle.decl_judge.proofs.AskedLemmas.{specifiers_told}
use Rattle.decl_judge.proofs.NodeLemmas.{named_at}
use Rattle.decl_judge.proofs.declared.declarator_fact.Goals as goal

pub returns-in-Some-clause-fact : goal.returns-in-Some-clause-fact
returns-in-Some-clause-fact c =
    let table = c.args.types.now in
    let nodes = nodes_of c.args.unit.now in
    let facts = nodes_seen table c.args.facts.now in
    let at = standing c.args.at in
    let said = specified_seen table c.in-Some.specifiers in
    let declarator : named_node (node_of c.node-declarator.result.now) ≡ node_at nodes c.args.handle =
    named_at c.args.unit.now c.args.handle (node_of c.node-declarator.result.now) c.requires.whole c.node-declarator.ensures in
    let specifiers : Some said ≡ meaning.specifiers_of nodes facts c.args.at.parent =
    ap (option_map (specified_seen table)) (sym c.in-Some.is ∙ c.specifiers_of.ensures) ∙ specifiers_told table c.args.facts.now nodes c.args.at.parent in
    subst (λ (meant : Fact). IfOk c.declarator_behind.result (λ fact. node_seen c.declarator_behind.new.types fact ≡ meant))
    (ap (λ node. declared_behind nodes at facts node said) declarator ∙ ap (meaning.declarator_fact nodes at facts c.args.handle) specifiers)
    c.declarator_behind.ensures.fact
