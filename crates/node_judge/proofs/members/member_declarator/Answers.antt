-- The row of a member, with what its parts break and pass.
use Rattle.std.proofs.Common.{◌≡◌, true, ◌&&◌, sym, ap, subst, ◌∙◌}
use Rattle.meaning_typing.specs.MemberRows.{is_declarator_kind, is_member_declaration, member_declarator_row}
use Rattle.meaning_typing.specs.Surroundings.{Surrounding}
use Rattle.meaning_typing.specs.Units.{kind_at}
use Rattle.meaning_typing.specs.WholeTyping.{whole_declarator_row}
use Rattle.c_types.specs.Layouts.{told_in}
use Rattle.decl_judge.specs.Units.{nodes_of}
use Rattle.expr_judge.specs.Rows.{Tells}
use Rattle.expression_rows.specs.Rows.{told}
use Rattle.member_declarations.specs.Seen as members
use Rattle.node_facts.specs.Facts.{nodes_seen}
use Rattle.node_facts.specs.Growing.{TypesJoin}
use Rattle.node_facts.proofs.GrowthLemmas.{joins_on, nodes_known, nodes_later}
use Rattle.node_surroundings.specs.Seen.{surrounding_seen, surroundings_seen}
use Rattle.node_judge.specs.declared.known.Known.{Known}
use Rattle.node_judge.specs.Known.{table_of}
use Rattle.node_judge.proofs.KnownLemmas.{known_later, known_places, types_alone}
use Rattle.node_judge.proofs.MemberLemmas.{none_named, tells_member, tells_untyped}
use Rattle.node_judge.proofs.RowLemmas.{declarator_told}
use Rattle.node_judge.proofs.members.member_declarator.Goals as goal

pub judge_member-requires-clause-facts : goal.judge_member-requires-clause-facts
judge_member-requires-clause-facts c =
    let known = c.args.known.now in
    nodes_known (table_of known) c.declarator_parts.new.types c.in_ok-parts.ensures.keeps known.declarations.facts c.requires.known.kept.whole.ids

pub returns-in_ok-taken-in-None-clause-says : goal.returns-in_ok-taken-in-None-clause-says
returns-in_ok-taken-in-None-clause-says c =
    let nodes = nodes_of c.args.unit.now in
    let surroundings = surroundings_seen c.args.surroundings.now in
    let known = c.args.known.now in
    let old = table_of known in
    let list = known.declarations.facts in
    let facts = nodes_seen old list in
    let handle = c.args.handle in
    let middle = c.declarator_parts.new.types in
    let new = c.judge_member.new.types in
    let first = c.in_ok-parts.ensures.keeps in
    let join : TypesJoin old new = joins_on old middle new first c.in_ok-row-in-None.ensures.keeps in
    let stands = surrounding_seen c.get-surrounding.result in
    let same = c.get-surrounding.ensures.seen in
    let meant = member_declarator_row nodes surroundings (told_in old) facts handle stands in
    let declares : is_member_declaration (kind_at nodes stands.parent) ≡ true =
    ap (λ (at : Surrounding). is_member_declaration (kind_at nodes at.parent)) same ∙ c.requires.member in
    let seen : members.row_seen new c.in_ok-row-in-None.row ≡ told meant =
    c.in_ok-row-in-None.ensures.row
    ∙ (λ i. told (member_declarator_row nodes surroundings (first.layouts i) (nodes_later old middle first list c.requires.known.kept.whole.ids i) handle (sym same i))) in
    let taken = c.in_ok-taken-in-None.ensures new meant seen c.in_ok-row-in-None.ensures.known none_named in
    subst (Tells old new c.args.found.now c.take_member_row.new.found c.with_passed.result)
    (ap (whole_declarator_row (told_in old) nodes surroundings facts handle) same ∙ declarator_told nodes surroundings old list handle)
    (tells_member nodes surroundings handle stands old new join facts declares c.args.found.now c.take_member_row.new.found c.in_ok-taken-in-None.taken c.with_passed.result
    c.in_ok-parts.parts taken c.in-None.is c.in_ok-parts.ensures.broken c.in_ok-parts.ensures.passed (c.with_passed.ensures.seen new)
    (c.with_passed.ensures.known new taken.ids))

pub returns-in_ok-taken-in-None-clause-keeps : goal.returns-in_ok-taken-in-None-clause-keeps
returns-in_ok-taken-in-None-clause-keeps c =
    let nodes = nodes_of c.args.unit.now in
    let surroundings = surroundings_seen c.args.surroundings.now in
    let known = c.args.known.now in
    let handle = c.args.handle in
    let middle = c.declarator_parts.new.types in
    let new = c.judge_member.new.types in
    let join : TypesJoin (table_of known) new = joins_on (table_of known) middle new c.in_ok-parts.ensures.keeps c.in_ok-row-in-None.ensures.keeps in
    let kept = record known.declarations { types = new } in
    let later : Known = record known { declarations = kept } in
    known_places nodes surroundings handle later (known_later nodes surroundings handle known c.requires.known kept (types_alone known.declarations new join))
    c.of.new.self c.in_ok-body.ensures.kept

pub returns-in-Some-clause-says : goal.returns-in-Some-clause-says
returns-in-Some-clause-says c =
    let nodes = nodes_of c.args.unit.now in
    let surroundings = surroundings_seen c.args.surroundings.now in
    let known = c.args.known.now in
    let old = table_of known in
    let list = known.declarations.facts in
    let facts = nodes_seen old list in
    let handle = c.args.handle in
    let new = c.declarator_parts.new.types in
    let join = c.in_ok-parts.ensures.keeps in
    let stands = surrounding_seen c.get-surrounding.result in
    let same = c.get-surrounding.ensures.seen in
    let found = c.args.found.now in
    let declares : is_member_declaration (kind_at nodes stands.parent) ≡ true =
    ap (λ (at : Surrounding). is_member_declaration (kind_at nodes at.parent)) same ∙ c.requires.member in
    subst (Tells old new found found c.without_type.result)
    (ap (whole_declarator_row (told_in old) nodes surroundings facts handle) same ∙ declarator_told nodes surroundings old list handle)
    (tells_untyped nodes surroundings handle stands old new join facts declares found c.without_type.result c.in_ok-parts.parts c.in-Some.broken
    c.name_broken-twice.result c.in-Some.is c.in_ok-parts.ensures.broken c.in_ok-parts.ensures.passed
    (c.name_broken-twice.ensures surroundings c.requires.known.gathered.names (λ i. is_declarator_kind (c.requires.kind i) && c.requires.member i))
    (c.without_type.ensures.seen new) (c.without_type.ensures.known new))

pub returns-in-Some-clause-keeps : goal.returns-in-Some-clause-keeps
returns-in-Some-clause-keeps c =
    let nodes = nodes_of c.args.unit.now in
    let surroundings = surroundings_seen c.args.surroundings.now in
    let known = c.args.known.now in
    let handle = c.args.handle in
    let new = c.declarator_parts.new.types in
    let kept = record known.declarations { types = new } in
    let later : Known = record known { declarations = kept } in
    known_places nodes surroundings handle later
    (known_later nodes surroundings handle known c.requires.known kept (types_alone known.declarations new c.in_ok-parts.ensures.keeps))
    c.of.new.self c.in_ok-body.ensures.kept
