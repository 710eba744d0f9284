-- Turns of walks as they are taken in code, over a table of types and paths, of which a turn may add some.
use Rattle.std.specs.Prelude.{◌≡◌, ℕ, ◌<◌, Bool, true, length, List, [], ◌∷◌}
use Rattle.meaning_typing.specs.Facts.{Fact}
use Rattle.meaning_typing.specs.Units.{UnitNodes}
use Rattle.meaning_initializers.specs.Items.{Item}
use Rattle.meaning_initializers.specs.Parts.{Aggregates}
use Rattle.meaning_initializers.specs.Reading.{designators_of, initializer_at}
use Rattle.c_types.specs.Table.{TypeTable}
use Rattle.initializer_levels.specs.declared.items.ItemList.{ItemList}
use Rattle.initializer_levels.specs.declared.items.NextItem.{NextItem}
use Rattle.initializer_levels.specs.declared.turn.Turn.{Turn}
use Rattle.initializer_levels.specs.declared.walk.Walk as kept_walk
use Rattle.initializer_levels.specs.Items.{item_seen, items_behind, items_left, led_list}
use Rattle.initializer_levels.specs.Met.{IsMetIn, met_plan}
use Rattle.initializer_levels.specs.Turns.{Found, Turned, Turns, found_behind}
use Rattle.initializer_levels.specs.Walks.{IsKnownTurned, turned_seen, walk_seen}

module _ (nodes : UnitNodes) (facts : List Fact) where
  -- this item comes next, and may have designators
  pub record IsNext (list : ItemList) (next : NextItem) : Type 0 where
    pub items : items_left nodes facts list ≡ item_seen nodes facts next (items_behind nodes facts list)
    pub led : items_left nodes facts (led_list list) ≡ Item [] true (initializer_at nodes facts next.initializer) (items_behind nodes facts list)
    pub some : next.is_designated ≡ true → 0 < length (designators_of nodes facts next.item)

  abbrev pub turn_seen : TypeTable → (paths : List (List ℕ)) → (is_static : Bool) → Found → Turn → Turned
  turn_seen table paths is_static found turn =
      turned_seen table paths (items_left nodes facts) (found_behind found (met_plan nodes facts is_static table paths turn.met)) turn.turned

-- a walk turns so, whatever was found before
abbrev pub TurnsTo : Aggregates → UnitNodes → List Fact → TypeTable → (old new : List (List ℕ)) → kept_walk.Walk → Turn → Type 0
TurnsTo aggregates nodes facts table old new walk turn =
    (is_static : Bool) (found : Found)
    → Turns aggregates is_static (walk_seen table old (items_left nodes facts) found walk) (turn_seen nodes facts table new is_static found turn)

pub record IsKnownTurn (table : TypeTable) (paths : List (List ℕ)) (turn : Turn) : Type 0 where
  pub turned : IsKnownTurned table paths turn.turned
  pub met : IsMetIn table paths turn.met
