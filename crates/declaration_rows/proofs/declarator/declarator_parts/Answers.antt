use Rattle.std.proofs.Common.{◌≡◌, ℕ, List, None, Some, Option, IfOk, IfSome, option_map, sym, ap, ◌∙◌, subst}
use Rattle.meaning_operands.specs.Failures.{Broken}
use Rattle.meaning_rules.specs.Rules.{least_broken, least_token}
use Rattle.meaning_typing.specs.DeclarationRows.{declarator_parts_broken}
use Rattle.meaning_typing.specs.Declarators as meaning
use Rattle.meaning_typing.specs.Units.{children_at, node_at}
use Rattle.meaning_typing.specs.WholeTyping.{large_by}
use Rattle.c_tree.specs.Seen.{node_of}
use Rattle.c_types.specs.Layouts.{told_in}
use Rattle.c_types.specs.Table.{IsTypeId}
use Rattle.decl_judge.specs.Units.{handles_of, named_node, nodes_of}
use Rattle.decl_judge.proofs.AskedLemmas.{specifiers_known, specifiers_told}
use Rattle.decl_judge.proofs.NodeLemmas.{named_at}
use Rattle.expression_rows.specs.Rows.{broken_seen}
use Rattle.node_facts.specs.declared.declared.SpecifiedFact.{SpecifiedFact}
use Rattle.node_facts.specs.Facts.{nodes_seen, specified_seen}
use Rattle.node_surroundings.specs.Seen.{surrounding_seen}
use Rattle.declaration_rows.specs.Declarators.{broken_behind, large_behind}
use Rattle.declaration_rows.proofs.declarator.declarator_parts.Goals as goal

pub parts_behind-requires-clause-specifiers : goal.parts_behind-requires-clause-specifiers
parts_behind-requires-clause-specifiers c =
    let types = c.args.types.now in
    subst (λ (said : Option SpecifiedFact). IfSome said (λ specifiers. IsTypeId types specifiers.of)) (sym c.specifiers_of.ensures ∙ c.in-Some.is)
    (specifiers_known types c.args.facts.now (nodes_of c.args.unit.now) c.args.surrounding.parent c.requires.facts)

pub returns-in-Some-clause-broken : goal.returns-in-Some-clause-broken
returns-in-Some-clause-broken c =
    let types = c.args.types.now in
    let nodes = nodes_of c.args.unit.now in
    let facts = nodes_seen types c.args.facts.now in
    let surrounding = surrounding_seen c.args.surrounding in
    let said = specified_seen types c.in-Some.specifiers in
    let declarator : named_node (node_of c.node.result.now) ≡ node_at nodes c.args.handle =
    named_at c.args.unit.now c.args.handle (node_of c.node.result.now) c.requires.whole c.node.ensures in
    let specifiers : Some said ≡ meaning.specifiers_of nodes facts surrounding.parent =
    ap (option_map (specified_seen types)) (sym c.in-Some.is ∙ c.specifiers_of.ensures) ∙ specifiers_told types c.args.facts.now nodes surrounding.parent in
    subst (λ (meant : List Broken). IfOk c.parts_behind.result (λ found. option_map broken_seen found.broken ≡ least_broken meant))
    (ap (λ node. broken_behind (told_in types) nodes facts (handles_of node.children) surrounding said) declarator
    ∙ ap (declarator_parts_broken (told_in types) nodes facts c.args.handle surrounding) specifiers)
    c.parts_behind.ensures.broken

pub returns-in-Some-clause-passed : goal.returns-in-Some-clause-passed
returns-in-Some-clause-passed c =
    let types = c.args.types.now in
    let nodes = nodes_of c.args.unit.now in
    let facts = nodes_seen types c.args.facts.now in
    let parent = c.args.surrounding.parent in
    let said = specified_seen types c.in-Some.specifiers in
    let declarator : named_node (node_of c.node.result.now) ≡ node_at nodes c.args.handle =
    named_at c.args.unit.now c.args.handle (node_of c.node.result.now) c.requires.whole c.node.ensures in
    let specifiers : Some said ≡ meaning.specifiers_of nodes facts parent =
    ap (option_map (specified_seen types)) (sym c.in-Some.is ∙ c.specifiers_of.ensures) ∙ specifiers_told types c.args.facts.now nodes parent in
    subst (λ (tokens : List ℕ). IfOk c.parts_behind.result (λ found. found.passed ≡ least_token tokens))
    (ap (λ node. large_behind (told_in types) nodes facts parent (handles_of node.children) said) declarator
    ∙ ap (large_by (told_in types) nodes facts parent (children_at nodes c.args.handle)) specifiers)
    c.parts_behind.ensures.passed

pub returns-in-None-clause-broken : goal.returns-in-None-clause-broken
returns-in-None-clause-broken c =
    let types = c.args.types.now in
    let nodes = nodes_of c.args.unit.now in
    let facts = nodes_seen types c.args.facts.now in
    let surrounding = surrounding_seen c.args.surrounding in
    let specifiers : None ≡ meaning.specifiers_of nodes facts surrounding.parent =
    ap (option_map (specified_seen types)) (sym c.in-None.is ∙ c.specifiers_of.ensures) ∙ specifiers_told types c.args.facts.now nodes surrounding.parent in
    ap (λ said. least_broken (declarator_parts_broken (told_in types) nodes facts c.args.handle surrounding said)) specifiers

pub returns-in-None-clause-passed : goal.returns-in-None-clause-passed
returns-in-None-clause-passed c =
    let types = c.args.types.now in
    let nodes = nodes_of c.args.unit.now in
    let facts = nodes_seen types c.args.facts.now in
    let parent = c.args.surrounding.parent in
    let specifiers : None ≡ meaning.specifiers_of nodes facts parent =
    ap (option_map (specified_seen types)) (sym c.in-None.is ∙ c.specifiers_of.ensures) ∙ specifiers_told types c.args.facts.now nodes parent in
    ap (λ said. least_token (large_by (told_in types) nodes facts parent (children_at nodes c.args.handle) said)) specifiers
