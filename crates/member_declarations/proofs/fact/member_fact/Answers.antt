use Rattle.std.proofs.Common.{◌≡◌, Some, None, IfOk, IfSome, Option, option_map, sym, ap, ◌∙◌, subst}
use Rattle.meaning_typing.specs.Declarators as meaning
use Rattle.meaning_typing.specs.Facts.{Fact}
use Rattle.meaning_typing.specs.MemberDeclarations.{member_declared_if, member_type_said}
use Rattle.meaning_typing.specs.Units.{node_at}
use Rattle.c_tree.specs.Seen.{node_of}
use Rattle.c_types.specs.Table.{IsTypeId}
use Rattle.node_facts.specs.declared.declared.SpecifiedFact.{SpecifiedFact}
use Rattle.node_facts.specs.Facts.{node_seen, nodes_seen, specified_seen}
use Rattle.decl_judge.specs.Units.{named_node, nodes_of}
use Rattle.decl_judge.proofs.AskedLemmas.{specifiers_known, specifiers_told}
use Rattle.decl_judge.proofs.NodeLemmas.{named_at}
use Rattle.node_surroundings.specs.Seen.{surrounding_seen}
use Rattle.member_declarations.specs.Facts.{member_behind}
use Rattle.member_declarations.proofs.fact.member_fact.Goals as goal

pub fact_behind-requires-clause-specifiers : goal.fact_behind-requires-clause-specifiers
fact_behind-requires-clause-specifiers c =
    let types = c.args.types.now in
    subst (λ (said : Option SpecifiedFact). IfSome said (λ specifiers. IsTypeId types specifiers.of)) (sym c.specifiers_of.ensures ∙ c.in-Some.is)
    (specifiers_known types c.args.facts.now (nodes_of c.args.unit.now) c.args.surrounding.parent c.requires.facts)

pub returns-in-Some-clause-fact : goal.returns-in-Some-clause-fact
returns-in-Some-clause-fact c =
    let table = c.args.types.now in
    let nodes = nodes_of c.args.unit.now in
    let facts = nodes_seen table c.args.facts.now in
    let handle = c.args.handle in
    let surrounding = surrounding_seen c.args.surrounding in
    let said = specified_seen table c.in-Some.said in
    let declarator : named_node (node_of c.node-declarator.result.now) ≡ node_at nodes handle =
    named_at c.args.unit.now handle (node_of c.node-declarator.result.now) c.requires.whole c.node-declarator.ensures in
    let specifiers : Some said ≡ meaning.specifiers_of nodes facts surrounding.parent =
    ap (option_map (specified_seen table)) (sym c.in-Some.is ∙ c.specifiers_of.ensures) ∙ specifiers_told table c.args.facts.now nodes surrounding.parent in
    subst (λ (meant : Fact). IfOk c.fact_behind.result (λ fact. node_seen c.fact_behind.new.types fact ≡ meant))
    (ap (λ node. member_behind nodes facts surrounding.parent surrounding.place node said.type_) declarator
    ∙ ap (λ specifiers. member_declared_if (node_at nodes handle).name (member_type_said nodes facts handle surrounding specifiers)) specifiers)
    c.fact_behind.ensures.fact

pub returns-in-None-clause-fact : goal.returns-in-None-clause-fact
returns-in-None-clause-fact c =
    let table = c.args.types.now in
    let nodes = nodes_of c.args.unit.now in
    let facts = nodes_seen table c.args.facts.now in
    let handle = c.args.handle in
    let surrounding = surrounding_seen c.args.surrounding in
    let specifiers : None ≡ meaning.specifiers_of nodes facts surrounding.parent =
    ap (option_map (specified_seen table)) (sym c.in-None.is ∙ c.specifiers_of.ensures) ∙ specifiers_told table c.args.facts.now nodes surrounding.parent in
    ap (λ specifiers. member_declared_if (node_at nodes handle).name (member_type_said nodes facts handle surrounding specifiers)) specifiers
