-- Walks that designators lead to a part.
use Rattle.std.specs.Prelude.{◌≡◌, ℕ, Bool, List, [], ◌∷◌, None}
use Rattle.meaning_typing.specs.Facts.{Fact}
use Rattle.meaning_typing.specs.Units.{UnitNodes}
use Rattle.meaning_initializers.specs.Designators.{Leads, Way}
use Rattle.meaning_initializers.specs.Items.{Items, from_designator}
use Rattle.meaning_initializers.specs.Parts.{Aggregates, path_to}
use Rattle.meaning_initializers.specs.Reading.{designators_of, initializer_at}
use Rattle.c_types.specs.Table.{TypeTable}
use Rattle.initializer_levels.specs.declared.going.Arrived.{Arrived}
use Rattle.initializer_levels.specs.declared.going.Going.{Going}
use Rattle.initializer_levels.specs.declared.items.ItemList.{ItemList}
use Rattle.initializer_levels.specs.declared.items.NextItem.{NextItem}
use Rattle.initializer_levels.specs.declared.met.Met.{Met}
use Rattle.initializer_levels.specs.declared.parts.Part.{Part}
use Rattle.initializer_levels.specs.declared.walk.Walk as kept_walk
use Rattle.initializer_levels.specs.Going.{GoesTo}
use Rattle.initializer_levels.specs.Items.{items_behind, items_left}
use Rattle.initializer_levels.specs.Kept.{level_seen}
use Rattle.initializer_levels.specs.Levels.{Level, Place, designated_part, ended, opened}
use Rattle.initializer_levels.specs.Met.{met_plan}
use Rattle.initializer_levels.specs.Parts.{IsKnownPart, part_seen, type_seen}
use Rattle.initializer_levels.specs.Turns.{Found, Walk, found_behind, turned_along}
use Rattle.initializer_levels.specs.Walks.{IsKnownWalk, levels_seen}

abbrev pub place_seen : TypeTable → (paths : List (List ℕ)) → (read : ItemList → Items) → Arrived → Place
place_seen table paths read arrived =
    record {
      part = part_seen table arrived.part;
      level = level_seen table paths read arrived.walk.level;
      levels = levels_seen table paths read arrived.walk.levels.items;
    }

pub record IsKnownArrived (table : TypeTable) (paths : List (List ℕ)) (arrived : Arrived) : Type 0 where
  pub part : IsKnownPart table arrived.part
  pub walk : IsKnownWalk table paths arrived.walk

-- a part of the innermost level of a walk, to which a designator led, is a level of its own
pub record IsOpened (table : TypeTable) (old new : List (List ℕ)) (read : ItemList → Items) (part : Part) (walk inner : kept_walk.Walk) : Type 0 where
  pub level : level_seen table new read inner.level
      ≡ opened (type_seen table part.of) (path_to (type_seen table walk.level.of) (level_seen table old read walk.level).path (part_seen table part)) None
  pub levels : levels_seen table new read inner.levels.items
      ≡ designated_part part.number (level_seen table old read walk.level) ∷ levels_seen table old read walk.levels.items
  pub items : inner.items ≡ walk.items

module _ (nodes : UnitNodes) (facts : List Fact) (table : TypeTable) (paths : List (List ℕ)) where
  -- the first item of a walk has designators that lead this way
  abbrev pub along_seen : (initializer : ℕ) → kept_walk.Walk → Way → (is_static : Bool) → Found → Walk
  along_seen initializer walk way is_static found =
      turned_along is_static found (level_seen table paths (items_left nodes facts) walk.level)
      (levels_seen table paths (items_left nodes facts) walk.levels.items) (initializer_at nodes facts initializer) (items_behind nodes facts walk.items) way

  -- it has designators that lead nowhere, of which this is told
  abbrev pub nowhere_seen : Met → kept_walk.Walk → (is_static : Bool) → Found → Walk
  nowhere_seen met walk is_static found =
      record {
        found = found_behind found (met_plan nodes facts is_static table paths met);
        level = ended (level_seen table paths (items_left nodes facts) walk.level);
        levels = levels_seen table paths (items_left nodes facts) walk.levels.items;
        items = from_designator (items_behind nodes facts walk.items);
      }

-- a walk goes on where the designators of its first item lead
abbrev pub GoesAlong : Aggregates → UnitNodes → List Fact → TypeTable → (old new : List (List ℕ)) → NextItem → kept_walk.Walk → Going → Type 0
GoesAlong aggregates nodes facts table old new next walk going =
    (way : Way) × Leads aggregates (type_seen table walk.level.of) (designators_of nodes facts next.item) way
    × GoesTo nodes facts table new going (along_seen nodes facts table old next.initializer walk way)
