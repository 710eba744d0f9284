-- How walks are kept.
use Rattle.std.specs.Prelude.{ℕ, Bool, List, [], ◌∷◌, All, map, reverse}
use Rattle.meaning_initializers.specs.Items.{Items}
use Rattle.c_types.specs.Table.{TypeTable}
use Rattle.initializer_levels.specs.declared.items.ItemList.{ItemList}
use Rattle.initializer_levels.specs.declared.level.Level as kept
use Rattle.initializer_levels.specs.declared.walk.Turned as kept_turned
use Rattle.initializer_levels.specs.declared.walk.Turned.TheVariants as kept_turns
use Rattle.initializer_levels.specs.declared.walk.Walk as kept_walk
use Rattle.initializer_levels.specs.Kept.{IsKnownLevel, level_seen}
use Rattle.initializer_levels.specs.Levels.{Level, behind_part}
use Rattle.initializer_levels.specs.Turns.{Found, Walk, Turned, Goes, Done}

-- from the innermost on
abbrev pub levels_seen : TypeTable → (paths : List (List ℕ)) → (read : ItemList → Items) → List kept.Level → List Level
levels_seen table paths read levels = reverse (map (level_seen table paths read) levels)

abbrev pub walk_seen : TypeTable → (paths : List (List ℕ)) → (read : ItemList → Items) → Found → kept_walk.Walk → Walk
walk_seen table paths read found walk =
    record {
      found = found;
      level = level_seen table paths read walk.level;
      levels = levels_seen table paths read walk.levels.items;
      items = read walk.items;
    }

abbrev pub turned_seen : TypeTable → (paths : List (List ℕ)) → (read : ItemList → Items) → Found → kept_turned.Turned → Turned
turned_seen table paths read found (kept_turns.Goes walk) = Goes (walk_seen table paths read found walk)
turned_seen table paths read found (kept_turns.Done length) = Done found length

-- its types are of the table, and where its levels stand are paths
pub record IsKnownWalk (table : TypeTable) (paths : List (List ℕ)) (walk : kept_walk.Walk) : Type 0 where
  pub level : IsKnownLevel table paths walk.level
  pub levels : All (IsKnownLevel table paths) walk.levels.items

abbrev pub IsKnownTurned : TypeTable → (paths : List (List ℕ)) → kept_turned.Turned → Type 0
IsKnownTurned table paths (kept_turns.Goes walk) = IsKnownWalk table paths walk
IsKnownTurned table paths (kept_turns.Done length) = Unit {0}

-- behind a level of this length
abbrev pub left_behind : Found → (length : ℕ) → (is_filled : Bool) → List Level → Items → Turned
left_behind found length is_filled [] items = Done found length
left_behind found length is_filled (level ∷ levels) items =
    Goes (record { found = found; level = behind_part level is_filled; levels = levels; items = items })

-- in a part of a level
abbrev pub inner_walk : Found → (inner level : Level) → List Level → Items → Walk
inner_walk found inner level levels items = record { found = found; level = inner; levels = level ∷ levels; items = items }
