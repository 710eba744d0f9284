-- Walks that go on behind what they met.
use Rattle.std.specs.Prelude.{◌≡◌, ℕ, Bool, true, List}
use Rattle.meaning_typing.specs.Facts.{Fact}
use Rattle.meaning_typing.specs.Units.{UnitNodes}
use Rattle.meaning_initializers.specs.Items.{Initializer}
use Rattle.meaning_initializers.specs.Parts.{takes_whole}
use Rattle.meaning_initializers.specs.Reading.{initializer_at}
use Rattle.c_types.specs.Table.{TypeTable}
use Rattle.initializer_levels.specs.declared.going.Going.{Going}
use Rattle.initializer_levels.specs.declared.items.ItemList.{ItemList}
use Rattle.initializer_levels.specs.declared.met.Met.{Met}
use Rattle.initializer_levels.specs.declared.met.Placed.{Placed}
use Rattle.initializer_levels.specs.declared.walk.Walk as kept_walk
use Rattle.initializer_levels.specs.Items.{items_behind, items_left}
use Rattle.initializer_levels.specs.Kept.{level_seen}
use Rattle.initializer_levels.specs.Levels.{behind_part}
use Rattle.initializer_levels.specs.Met.{IsMetIn, met_plan}
use Rattle.initializer_levels.specs.Parts.{type_seen}
use Rattle.initializer_levels.specs.Paths.{path_at}
use Rattle.initializer_levels.specs.Turns.{Found, Walk, filled_if, found_behind, received}
use Rattle.initializer_levels.specs.Walks.{IsKnownWalk, levels_seen, walk_seen}

module _ (nodes : UnitNodes) (facts : List Fact) (table : TypeTable) (paths : List (List ℕ)) where
  abbrev pub going_seen : (is_static : Bool) → Found → Going → Walk
  going_seen is_static found going =
      walk_seen table paths (items_left nodes facts) (found_behind found (met_plan nodes facts is_static table paths going.met)) going.walk

  -- it goes on so, whatever was found before
  abbrev pub GoesTo : Going → (Bool → Found → Walk) → Type 0
  GoesTo going walk = (is_static : Bool) (found : Found) → going_seen is_static found going ≡ walk is_static found

  -- behind the part of a walk's innermost level, which took an item that comes to this
  abbrev pub behind_seen : Met → kept_walk.Walk → (is_static : Bool) → Found → Walk
  behind_seen met walk is_static found =
      record {
        found = found_behind found (met_plan nodes facts is_static table paths met);
        level = behind_part (level_seen table paths (items_left nodes facts) walk.level) true;
        levels = levels_seen table paths (items_left nodes facts) walk.levels.items;
        items = items_left nodes facts walk.items;
      }

  -- a part that stands in the levels of the walk takes an initializer whole, with the items of the walk behind it
  abbrev pub received_seen : Placed → kept_walk.Walk → Initializer → (is_static : Bool) → Found → Walk
  received_seen placed walk initializer is_static found =
      received is_static found (type_seen table placed.of) (path_at paths placed.path) (level_seen table paths (items_left nodes facts) walk.level)
      (levels_seen table paths (items_left nodes facts) walk.levels.items) placed.is_moved initializer (items_left nodes facts walk.items)

  -- it takes the first item of the walk, or its parts do
  abbrev pub filled_seen : Placed → kept_walk.Walk → (is_static : Bool) → Found → Walk
  filled_seen placed walk is_static found =
      filled_if is_static (takes_whole (type_seen table placed.of) (initializer_at nodes facts placed.initializer)) found (type_seen table placed.of)
      (path_at paths placed.path) (level_seen table paths (items_left nodes facts) walk.level)
      (levels_seen table paths (items_left nodes facts) walk.levels.items) placed.is_moved (initializer_at nodes facts placed.initializer)
      (items_behind nodes facts walk.items)

pub record IsKnownGoing (table : TypeTable) (paths : List (List ℕ)) (going : Going) : Type 0 where
  pub walk : IsKnownWalk table paths going.walk
  pub met : IsMetIn table paths going.met
