use Rattle.std.proofs.Common.{◌≡◌, ℕ, ap, subst, ◌∙◌}
use Rattle.meaning_typing.specs.Declarators.{declarator_fact, specifiers_of}
use Rattle.meaning_typing.specs.Facts.{Fact}
use Rattle.meaning_typing.specs.MemberRows.{is_member_declaration}
use Rattle.meaning_typing.specs.Surroundings.{Surrounding}
use Rattle.meaning_typing.specs.Units.{UnitNodes, kind_at}
use Rattle.meaning_typing.specs.WholeTyping.{whole_declarator_row}
use Rattle.c_types.specs.Layouts.{told_in}
use Rattle.c_types.specs.Table.{TypeTable}
use Rattle.decl_judge.specs.Placed.{standing}
use Rattle.decl_judge.specs.Units.{nodes_of}
use Rattle.expr_judge.specs.Rows.{Tells}
use Rattle.node_facts.specs.Facts.{node_seen, nodes_seen}
use Rattle.node_facts.specs.Growing.{TypesJoin}
use Rattle.node_facts.proofs.GrowthLemmas.{joins_on}
use Rattle.node_surroundings.specs.declared.surrounding.Surrounding as code
use Rattle.node_surroundings.specs.Seen.{surrounding_seen, surroundings_seen}
use Rattle.declaration_judge.specs.declared.declarations.Declarations.{Declarations}
use Rattle.declaration_judge.specs.Kept.{IsWhole, OnlyTypesJoin, facts_seen}
use Rattle.declaration_judge.proofs.DeclarationLemmas.{declarator-standing, placed_at, tells_declarator, tells_untyped}
use Rattle.declaration_judge.proofs.KeptLemmas.{facts_later, kept_later, only_types, whole_later}
use Rattle.declaration_judge.proofs.declarators.declarator.Goals as goal

-- types joined twice
joined : (old : Declarations) (middle types : TypeTable) → TypesJoin old.types middle → TypesJoin middle types
    → OnlyTypesJoin old (record old { types = types })
joined old middle types first second = only_types old types (joins_on old.types middle types first second)

pub declarator_fact-requires-clause-facts : goal.declarator_fact-requires-clause-facts
declarator_fact-requires-clause-facts c =
    let old = c.args.kept.now in
    let middle = c.declarator_parts.new.types in
    (whole_later old (record old { types = middle }) (only_types old middle c.in_ok-parts.ensures.keeps) c.requires.kept.whole).ids

pub declaration-requires-clause-kept : goal.declaration-requires-clause-kept
declaration-requires-clause-kept c =
    let old = c.args.kept.now in
    let types = c.declarator_fact.new.types in
    kept_later old (record old { types = types })
    (joined old c.declarator_parts.new.types types c.in_ok-parts.ensures.keeps c.in_ok-fact.ensures.keeps)
    (nodes_of c.args.unit.now) (surroundings_seen c.args.surroundings.now) c.requires.kept

-- what is known of the declarator
fact-is :
    (nodes : UnitNodes) (surrounding : code.Surrounding) (handle : ℕ) (old : Declarations) (middle types : TypeTable) (join : TypesJoin old.types middle)
    (whole : IsWhole old) (fact : Fact)
    → fact ≡ declarator_fact nodes (standing (placed_at surrounding)) (nodes_seen middle old.facts) handle (specifiers_of nodes (nodes_seen middle old.facts) surrounding.parent)
    → fact ≡ declarator_fact nodes (surrounding_seen surrounding) (facts_seen old) handle (specifiers_of nodes (facts_seen old) surrounding.parent)
fact-is nodes surrounding handle old middle types join whole fact is =
    is
    ∙ ap (λ known. declarator_fact nodes (standing (placed_at surrounding)) known handle (specifiers_of nodes known surrounding.parent))
    (facts_later old (record old { types = middle }) (only_types old middle join) whole)
    ∙ declarator-standing nodes surrounding (facts_seen old) handle (specifiers_of nodes (facts_seen old) surrounding.parent)

pub defined_name_broken-names-requires-clause-kept : goal.defined_name_broken-names-requires-clause-kept
defined_name_broken-names-requires-clause-kept c =
    let old = c.args.kept.now in
    let types = c.declarator_fact.new.types in
    kept_later old (record old { types = types })
    (joined old c.declarator_parts.new.types types c.in_ok-parts.ensures.keeps c.in_ok-fact.ensures.keeps)
    (nodes_of c.args.unit.now) (surroundings_seen c.args.surroundings.now) c.requires.kept

pub returns-in_ok-row-in-None-clause-says : goal.returns-in_ok-row-in-None-clause-says
returns-in_ok-row-in-None-clause-says c =
    let nodes = nodes_of c.args.unit.now in
    let surroundings = surroundings_seen c.args.surroundings.now in
    let handle = c.args.handle in
    let surrounding = c.get-surrounding.result in
    let stands = surrounding_seen surrounding in
    let old = c.args.kept.now in
    let middle = c.declarator_parts.new.types in
    let types = c.declarator_fact.new.types in
    let first = c.in_ok-parts.ensures.keeps in
    let new : Declarations = record old { types = types } in
    let only = joined old middle types first c.in_ok-fact.ensures.keeps in
    let facts = facts_seen old in
    let before = c.args.found.now in
    let after = c.declaration.new.found in
    subst
    (λ (at : Surrounding). Tells old.types types before after c.with_passed.result
    (whole_declarator_row (told_in old.types) nodes surroundings facts handle at))
    c.get-surrounding.ensures.seen
    (tells_declarator nodes surroundings handle stands old new only (facts_later old new only c.requires.kept.whole)
    (ap (λ (at : Surrounding). is_member_declaration (kind_at nodes at.parent)) c.get-surrounding.ensures.seen ∙ c.requires.declares)
    (node_seen types c.in_ok-fact.fact)
    (fact-is nodes surrounding handle old middle types first c.requires.kept.whole (node_seen types c.in_ok-fact.fact) c.in_ok-fact.ensures.fact)
    before after c.in_ok-row-in-None.row c.with_passed.result c.in_ok-parts.parts c.in_ok-row-in-None.ensures c.in-None.is c.in_ok-parts.ensures.broken
    c.in_ok-parts.ensures.passed (c.with_passed.ensures.seen types) (c.with_passed.ensures.known types c.in_ok-row-in-None.ensures.ids))

pub returns-in-Some-clause-says : goal.returns-in-Some-clause-says
returns-in-Some-clause-says c =
    let nodes = nodes_of c.args.unit.now in
    let surroundings = surroundings_seen c.args.surroundings.now in
    let handle = c.args.handle in
    let surrounding = c.get-surrounding.result in
    let stands = surrounding_seen surrounding in
    let old = c.args.kept.now in
    let middle = c.declarator_parts.new.types in
    let types = c.declarator_fact.new.types in
    let first = c.in_ok-parts.ensures.keeps in
    let new : Declarations = record old { types = types } in
    let only = joined old middle types first c.in_ok-fact.ensures.keeps in
    let facts = facts_seen old in
    let found = c.args.found.now in
    subst
    (λ (at : Surrounding). Tells old.types types found found c.without_type.result
    (whole_declarator_row (told_in old.types) nodes surroundings facts handle at))
    c.get-surrounding.ensures.seen
    (tells_untyped nodes surroundings handle stands old new only (facts_later old new only c.requires.kept.whole)
    (ap (λ (at : Surrounding). is_member_declaration (kind_at nodes at.parent)) c.get-surrounding.ensures.seen ∙ c.requires.declares)
    (node_seen types c.in_ok-fact.fact)
    (fact-is nodes surrounding handle old middle types first c.requires.kept.whole (node_seen types c.in_ok-fact.fact) c.in_ok-fact.ensures.fact)
    found c.without_type.result c.in_ok-parts.parts c.in-Some.broken c.defined_name_broken-names.result c.in-Some.is
    c.in_ok-parts.ensures.broken c.in_ok-parts.ensures.passed c.defined_name_broken-names.ensures (c.without_type.ensures.seen types)
    (c.without_type.ensures.known types))
