-- The place is that of the way.
use Rattle.std.proofs.Common.{◌∙◌, List, ap, map, sym, true}
use Rattle.meaning_initializers.specs.Designators.{Along}
use Rattle.meaning_initializers.specs.Reading.{initializer_at}
use Rattle.node_facts.specs.Facts.{nodes_seen}
use Rattle.decl_judge.specs.Units.{nodes_of}
use Rattle.initializer_levels.specs.declared.items.ItemList.{ItemList}
use Rattle.initializer_levels.specs.declared.parts.Part.{Part}
use Rattle.initializer_levels.specs.Arriving.{along_seen}
use Rattle.initializer_levels.specs.Items.{items_behind, items_left, led_list}
use Rattle.initializer_levels.specs.Kept.{level_seen}
use Rattle.initializer_levels.specs.Levels.{Place}
use Rattle.initializer_levels.specs.Parts.{part_seen}
use Rattle.initializer_levels.specs.Turns.{filled, filled_place}
use Rattle.initializer_levels.specs.Walks.{levels_seen}
use Rattle.initializer_levels.proofs.GoingLemmas.{goes_as}
use Rattle.initializer_levels.proofs.designate.go_along.Goals as goal

pub returns-in_default-clause-known : goal.returns-in_default-clause-known
returns-in_default-clause-known c =
    record { walk = record { level = c.ended-level.ensures.known c.args.types.now c.args.paths.now c.requires.walk.level; levels = c.requires.walk.levels }; met = tt }

pub returns-clause-walk : goal.returns-clause-walk
returns-clause-walk c =
    let table = c.args.types.now in
    let nodes = nodes_of c.args.unit.now in
    let facts = nodes_seen table c.args.facts.now in
    let read = items_left nodes facts in
    let initializer = initializer_at nodes facts c.args.initializer in
    let paths = c.open_along.new.paths in
    let arrived = c.in_ok-arrived.arrived in
    goes_as nodes facts table c.fill_part.new.paths _ _ _ c.fill_part.ensures.walk
    (λ is_static found.
    ap
    (λ (list : ItemList).
    filled is_static found (part_seen table arrived.part) (level_seen table paths read arrived.walk.level) (levels_seen table paths read arrived.walk.levels.items) true initializer
    (items_behind nodes facts list))
    c.led.ensures
    ∙ (ap
    (λ (list : ItemList).
    filled is_static found (part_seen table arrived.part) (level_seen table paths read arrived.walk.level) (levels_seen table paths read arrived.walk.levels.items) true initializer
    (items_behind nodes facts (led_list list)))
    c.in_ok-arrived.ensures.items
    ∙ (ap (λ (place : Place). filled_place is_static found place initializer (items_behind nodes facts c.args.walk.items)) (c.in_ok-arrived.ensures.place read)
    ∙ ap (λ (parts : List Part). along_seen nodes facts table c.args.paths.now c.args.initializer c.args.walk (Along (map (part_seen table) parts)) is_static found)
    (sym c.in-Some.ensures.cases.0))))
