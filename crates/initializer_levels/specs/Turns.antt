-- How a walk over the items of an initializer goes on, turn by turn: what it has found, and what is left to be done.
use Rattle.std.specs.Prelude.{◌≡◌, ℕ, Bool, true, false, List, [], ◌∷◌, ◌++◌, Option, Some, None, if◌then◌else◌}
use Rattle.meaning_types.specs.Types.{TypeTree}
use Rattle.meaning_initializers.specs.Items.{Given, Designator, Initializer, Value, Braces, Items, NoItems, Item, from_designator, moved_with}
use Rattle.meaning_initializers.specs.Parts.{Aggregates, Part, path_to, string_before, takes_whole}
use Rattle.meaning_initializers.specs.Designators.{Leads, Way, Along, Nowhere}
use Rattle.meaning_initializers.specs.Plans.{Leaf, Refusal, Plan, no_plan, extra, refused, value_plan, string_alone}
use Rattle.meaning_initializers.specs.Filling.{part_for}
use Rattle.meaning_initializers.specs.Reading.{lesser_refusal}
use Rattle.initializer_levels.specs.Levels.{Level, Place, at_part, behind_part, ended, opened, place_along}

-- What was found

-- the leaves so far, and that one of the refusals so far which is told
pub record Found : Type 0 where
  pub leaves : List Leaf
  pub told : Option Refusal

abbrev pub nothing_found : Found
nothing_found = record { leaves = []; told = None }

-- one refusal more: the earlier one is told, unless this one stands before it
abbrev pub told_with : Option Refusal → Refusal → Option Refusal
told_with None refusal = Some refusal
told_with (Some told) refusal = Some (lesser_refusal told (Some refusal))

abbrev pub told_behind : Option Refusal → List Refusal → Option Refusal
told_behind told [] = told
told_behind told (refusal ∷ refusals) = told_behind (told_with told refusal) refusals

abbrev pub found_behind : Found → Plan → Found
found_behind found plan = record { leaves = found.leaves ++ plan.leaves; told = told_behind found.told plan.refusals }

-- Walks

-- the innermost level, those around it from the inside on, and the items that are left in the innermost braces
pub record Walk : Type 0 where
  pub found : Found
  pub level : Level
  pub levels : List Level
  pub items : Items

-- a walk goes on, or is over: with what it found, and the length of an array that has none
pub data Turned : Type 0 where
  Goes : Walk → Turned
  Done : Found → (length : ℕ) → Turned

-- Behind the innermost level, which took an item or didn't. The whole object stands in no level.
abbrev pub turned_out : Found → (closed : Level) → (is_filled : Bool) → List Level → Items → Turned
turned_out found closed is_filled [] items = Done found closed.length
turned_out found closed is_filled (level ∷ levels) items =
    Goes (record { found = found; level = behind_part level is_filled; levels = levels; items = items })

module _ (is_static : Bool) where
  -- a part takes an initializer, with items behind it
  abbrev pub received_braces : Found → TypeTree → (path : List ℕ) → Level → List Level → (is_moved : Bool) → (inner behind : Items) → Option (Given × Items) → Walk
  received_braces found type_ path level levels is_moved inner behind (Some string) =
      record {
        found = found_behind found (string_alone is_static type_ path is_moved string.0 string.1);
        level = behind_part level true;
        levels = levels;
        items = behind;
      }
  received_braces found type_ path level levels is_moved inner behind None =
      record { found = found; level = opened type_ path (Some behind); levels = level ∷ levels; items = moved_with is_moved inner }

  abbrev pub received : Found → TypeTree → (path : List ℕ) → Level → List Level → (is_moved : Bool) → Initializer → (behind : Items) → Walk
  received found type_ path level levels is_moved (Value given) behind =
      record {
        found = found_behind found (value_plan is_static type_ path is_moved given);
        level = behind_part level true;
        levels = levels;
        items = behind;
      }
  received found type_ path level levels is_moved (Braces handle token inner) behind =
      received_braces found type_ path level levels is_moved inner behind (string_before type_ inner)

  -- a part that stands in these levels takes the next item, or its parts do
  abbrev pub filled_if : (is_whole : Bool) → Found → TypeTree → (path : List ℕ) → Level → List Level → (is_moved : Bool) → Initializer → (behind : Items) → Walk
  filled_if true found type_ path level levels is_moved initializer behind = received found type_ path level levels is_moved initializer behind
  filled_if false found type_ path level levels is_moved initializer behind =
      record { found = found; level = opened type_ path None; levels = level ∷ levels; items = Item [] is_moved initializer behind }

  abbrev pub filled : Found → Part → Level → List Level → (is_moved : Bool) → Initializer → (behind : Items) → Walk
  filled found part level levels is_moved initializer behind =
      filled_if (takes_whole part.type_ initializer) found part.type_ (path_to level.type_ level.path part) level levels is_moved initializer behind

  abbrev pub filled_place : Found → Place → Initializer → (behind : Items) → Walk
  filled_place found place initializer behind = filled found place.part place.level place.levels true initializer behind

  -- an item with designators, which lead this way
  abbrev pub turned_along : Found → Level → List Level → Initializer → (behind : Items) → Way → Walk
  turned_along found level levels initializer behind (Along []) = record { found = found; level = ended level; levels = levels; items = behind }
  turned_along found level levels initializer behind (Along (part ∷ way)) = filled_place found (place_along level levels part way) initializer behind
  turned_along found level levels initializer behind (Nowhere refusals) =
      record {
        found = found_behind found (refused refusals no_plan);
        level = ended level;
        levels = levels;
        items = from_designator behind;
      }

-- the part of a level that takes the next item, if one may
abbrev pub next_part : Aggregates → Level → Items → Option Part
next_part aggregates level items = if level.is_over then None else part_for aggregates level.type_ level.number items

-- One turn of a walk.
pub data Turns (aggregates : Aggregates) (is_static : Bool) : Walk → Turned → Type 0 where
  -- a part is there for the next item
  part : {found : Found} {level : Level} {levels : List Level} {is_moved : Bool} {initializer : Initializer} {items : Items} {next : Part}
      → next_part aggregates level (Item [] is_moved initializer items) ≡ Some next
      → Turns aggregates is_static (record { found = found; level = level; levels = levels; items = Item [] is_moved initializer items })
      (Goes (filled is_static found next (at_part next.number level) levels is_moved initializer items))
  -- there is none, in a level without braces
  out : {found : Found} {level : Level} {levels : List Level} {items : Items}
      → next_part aggregates level items ≡ None → level.behind ≡ None
      → Turns aggregates is_static (record { found = found; level = level; levels = levels; items = items })
      (turned_out found level level.is_filled levels items)
  -- the end of braces
  closed : {found : Found} {level : Level} {levels : List Level} {behind : Items} → level.behind ≡ Some behind
      → Turns aggregates is_static (record { found = found; level = level; levels = levels; items = NoItems })
      (turned_out found level true levels behind)
  -- no part of what the braces are for takes the next item
  none : {found : Found} {level : Level} {levels : List Level} {is_moved : Bool} {initializer : Initializer} {items behind : Items}
      → next_part aggregates level (Item [] is_moved initializer items) ≡ None → level.behind ≡ Some behind
      → Turns aggregates is_static (record { found = found; level = level; levels = levels; items = Item [] is_moved initializer items })
      (Goes (record { found = found_behind found (refused (extra initializer) no_plan); level = ended level; levels = levels; items = items }))
  -- designators go down from what the braces are for
  designated : {found : Found} {level : Level} {levels : List Level} {designator : Designator} {designators : List Designator} {is_moved : Bool}
      {initializer : Initializer} {items behind : Items} {way : Way}
      → level.behind ≡ Some behind → Leads aggregates level.type_ (designator ∷ designators) way
      → Turns aggregates is_static
      (record { found = found; level = level; levels = levels; items = Item (designator ∷ designators) is_moved initializer items })
      (Goes (turned_along is_static found level levels initializer items way))

-- Objects

-- how a walk begins, where an object takes braces with these items
abbrev pub begun : (object : TypeTree) → Items → Walk
begun object items = record { found = nothing_found; level = opened object [] (Some NoItems); levels = []; items = items }

-- a walk comes to its end so
pub data Comes (aggregates : Aggregates) (is_static : Bool) : Walk → Found → (length : ℕ) → Type 0 where
  done : {walk : Walk} {found : Found} {length : ℕ} → Turns aggregates is_static walk (Done found length) → Comes aggregates is_static walk found length
  turned : {walk next : Walk} {found : Found} {length : ℕ}
      → Turns aggregates is_static walk (Goes next) → Comes aggregates is_static next found length → Comes aggregates is_static walk found length
