use Rattle.std.proofs.Common.{◌≡◌, ◌∙◌, ap, sym, option_map}
use Rattle.meaning_initializers.specs.Reading.{designators_of, initializer_at}
use Rattle.node_facts.specs.Facts.{nodes_seen}
use Rattle.decl_judge.specs.Units.{nodes_of}
use Rattle.initializer_levels.specs.Items.{items_behind, items_left}
use Rattle.initializer_levels.specs.Kept.{level_seen}
use Rattle.initializer_levels.specs.Levels.{Level}
use Rattle.initializer_levels.specs.Parts.{part_seen}
use Rattle.initializer_levels.specs.Turns.{filled}
use Rattle.initializer_levels.specs.Walks.{levels_seen}
use Rattle.initializer_levels.proofs.TurnLemmas.{part_turn, undesignated_item, undesignated_next}
use Rattle.initializer_levels.proofs.turn.turn_to_part.Goals as goal

pub returns-in-None-clause-turns : goal.returns-in-None-clause-turns
returns-in-None-clause-turns c = λ aggregates known.
    let table = c.args.types.now in
    let nodes = nodes_of c.args.unit.now in
    let facts = nodes_seen table c.args.facts.now in
    let old = c.args.paths.now in
    let walk = c.args.walk in
    let is = undesignated_item _ _ (designators_of nodes facts c.args.next.item) c.args.next.is_designated c.args.next.is_moved
    (initializer_at nodes facts c.args.next.initializer) c.requires.next.items c.requires.undesignated in
    c.turn_without_part.ensures.turns aggregates nodes facts table old c.args.next.is_moved c.requires.walk.levels is
    (undesignated_next aggregates (level_seen table old (items_left nodes facts) walk.level) _ _ c.args.next.is_moved (initializer_at nodes facts c.args.next.initializer) _ is
    (ap (option_map (part_seen table)) (sym c.in-None.is) ∙ c.part_for.ensures.next aggregates known.members))

pub fill_part-requires-clause-walk : goal.fill_part-requires-clause-walk
fill_part-requires-clause-walk c =
    record { level = c.at_part-level.ensures.known c.args.types.now c.args.paths.now c.requires.walk.level; levels = c.requires.walk.levels }

pub returns-in_ok-going-in-Some-clause-turns : goal.returns-in_ok-going-in-Some-clause-turns
returns-in_ok-going-in-Some-clause-turns c = λ aggregates known.
    let table = c.args.types.now in
    let nodes = nodes_of c.args.unit.now in
    let facts = nodes_seen table c.args.facts.now in
    let old = c.args.paths.now in
    let walk = c.args.walk in
    let initializer = initializer_at nodes facts c.args.next.initializer in
    let is = undesignated_item _ _ (designators_of nodes facts c.args.next.item) c.args.next.is_designated c.args.next.is_moved initializer c.requires.next.items
    c.requires.undesignated in
    part_turn aggregates nodes facts table old c.fill_part.new.paths walk c.in_ok-going-in-Some.going (part_seen table c.in-Some.part) c.args.next.initializer
    c.args.next.is_moved is (ap (option_map (part_seen table)) (sym c.in-Some.is) ∙ c.part_for.ensures.next aggregates known.members)
    (λ is_static found.
    c.in_ok-going-in-Some.ensures.walk is_static found
    ∙ ap
    (λ (level : Level).
    filled is_static found (part_seen table c.in-Some.part) level (levels_seen table old (items_left nodes facts) walk.levels.items) c.args.next.is_moved initializer
    (items_behind nodes facts walk.items))
    (c.at_part-level.ensures.level table old (items_left nodes facts)))
