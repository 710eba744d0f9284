use Rattle.std.proofs.Common.{◌<◌, ◌&&◌, length, ap, ◌∙◌, arith}
use Rattle.std.proofs.lemmas.List.{length-map}
use Rattle.meaning_typing.specs.MemberRows.{is_structure}
use Rattle.meaning_typing.specs.Surroundings.{Surrounding, surrounding_at}
use Rattle.meaning_typing.specs.Units.{kind_at}
use Rattle.node_facts.specs.Facts.{name_seen}
use Rattle.decl_judge.specs.Units.{nodes_of}
use Rattle.node_surroundings.specs.Seen.{surrounding_seen, surroundings_seen}
use Rattle.member_declarations.specs.Flexible.{has_member_besides, is_last_at}
use Rattle.member_declarations.proofs.FlexibleLemmas.{flexible_told}
use Rattle.member_declarations.proofs.StandingLemmas.{parent_there, part_stands, part_within}
use Rattle.member_declarations.proofs.flexible.may_be_flexible.Goals as goal

pub get-standing-requires : goal.get-standing-requires
get-standing-requires c = part_within c.args.unit.now c.args.surroundings.now c.requires.whole c.requires.surroundings c.args.declaration c.requires.part

pub get-specifier-requires : goal.get-specifier-requires
get-specifier-requires c =
    let nodes = nodes_of c.args.unit.now in
    let seen = surroundings_seen c.args.surroundings.now in
    let declaration = c.args.declaration in
    let stands = part_stands name_seen c.args.unit.now c.requires.whole seen (c.requires.surroundings name_seen) c.requires.laid declaration c.requires.part in
    let parent : (surrounding_at seen declaration).parent < length nodes =
    parent_there nodes (surrounding_at seen declaration).parent (surrounding_at seen declaration).place declaration stands.there in
    omega (
      arith,
      parent,
      ap (λ (standing : Surrounding). standing.parent) c.get-standing.ensures.seen,
      (c.requires.surroundings name_seen).all,
      length-map c.args.surroundings.now surrounding_seen,
    )

pub returns : goal.returns
returns c =
    let nodes = nodes_of c.args.unit.now in
    let seen = surroundings_seen c.args.surroundings.now in
    let declaration = c.args.declaration in
    let declarator = c.args.declarator in
    let body = c.args.body in
    let stands = part_stands name_seen c.args.unit.now c.requires.whole seen (c.requires.surroundings name_seen) c.requires.laid declaration c.requires.part in
    let parent = ap (λ (standing : Surrounding). standing.parent) c.get-standing.ensures.seen in
    let place = ap (λ (standing : Surrounding). standing.place) c.get-standing.ensures.seen in
    let specifier = ap (λ (standing : Surrounding). standing.parent) c.get-specifier.ensures.seen ∙ ap (λ parent. (surrounding_at seen parent).parent) parent in
    c.is_flexible_in.ensures
    ∙ (λ i. is_structure ((c.kind_at.ensures ∙ ap (kind_at nodes) specifier) i) && (is_last_at body.last declarator (place i) && has_member_besides body declarator))
    ∙ flexible_told nodes seen declarator declaration body c.requires.body stands.there c.requires.kind
