use Rattle.std.proofs.Common.{◌<◌, length, ap, sym, subst, ◌∙◌}
use Rattle.std.proofs.lemmas.Option.{slice_get_within}
use Rattle.meaning_typing.specs.Surroundings.{Surrounding, surrounding_at}
use Rattle.meaning_typing.specs.Units.{children_at}
use Rattle.node_facts.specs.Facts.{name_seen}
use Rattle.decl_judge.specs.Units.{nodes_of}
use Rattle.node_surroundings.specs.Seen.{surroundings_seen}
use Rattle.member_declarations.specs.Entries.{declarator_before}
use Rattle.member_declarations.proofs.EntryLemmas.{width_claimed}
use Rattle.member_declarations.proofs.StandingLemmas.{part_stands, part_within}
use Rattle.member_declarations.proofs.entries.declarator_of_width.Goals as goal

pub get-standing-requires : goal.get-standing-requires
get-standing-requires c = part_within c.args.unit.now c.args.surroundings.now c.requires.whole c.requires.surroundings c.args.width c.requires.part

pub declarator_before_place-requires-clause-place : goal.declarator_before_place-requires-clause-place
declarator_before_place-requires-clause-place c =
    let nodes = nodes_of c.args.unit.now in
    let seen = surroundings_seen c.args.surroundings.now in
    let width = c.args.width in
    let stands = part_stands name_seen c.args.unit.now c.requires.whole seen (c.requires.surroundings name_seen) c.requires.laid width c.requires.part in
    subst (λ (standing : Surrounding). standing.place < length (children_at nodes standing.parent)) (sym c.get-standing.ensures.seen)
    (slice_get_within (children_at nodes (surrounding_at seen width).parent) (surrounding_at seen width).place width stands.there)

pub returns : goal.returns
returns c =
    let nodes = nodes_of c.args.unit.now in
    let seen = surroundings_seen c.args.surroundings.now in
    let width = c.args.width in
    let stands = part_stands name_seen c.args.unit.now c.requires.whole seen (c.requires.surroundings name_seen) c.requires.laid width c.requires.part in
    c.declarator_before_place.ensures
    ∙ ap (λ (standing : Surrounding). declarator_before nodes (children_at nodes standing.parent) standing.place) c.get-standing.ensures.seen
    ∙ sym
    (width_claimed nodes (children_at nodes (surrounding_at seen width).parent) width (surrounding_at seen width).place stands.there stands.once
    c.requires.kind)
