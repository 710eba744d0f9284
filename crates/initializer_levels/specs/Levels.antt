-- Levels: objects and parts that are filled part by part, as a walk over the items of an initializer keeps them (C11 6.7.9 p17 to p20).
use Rattle.std.specs.Prelude.{ℕ, suc, max, Bool, true, false, ◌||◌, not, List, [], ◌∷◌, Option, None}
use Rattle.meaning_types.specs.Types.{TypeTree}
use Rattle.meaning_initializers.specs.Items.{Items}
use Rattle.meaning_initializers.specs.Parts.{Part, path_to, is_array}
use Rattle.meaning_initializers.specs.Plans.{length_with}

pub record Level : Type 0 where
  pub type_ : TypeTree
  -- from the whole object on
  pub path : List ℕ
  -- of the part that is being filled, or from which on the next one is sought
  pub number : ℕ
  -- none of its parts takes the next item
  pub is_over : Bool
  -- a designator led to the part that is being filled
  pub is_designated : Bool
  -- it took an item
  pub is_filled : Bool
  -- how many elements it gives an array that has no length, so far
  pub length : ℕ
  -- the items behind its braces; a level without braces takes from those of the level around
  pub behind : Option Items

-- nothing of it is filled yet
abbrev pub opened : TypeTree → (path : List ℕ) → (behind : Option Items) → Level
opened type_ path behind =
    record {
      type_ = type_;
      path = path;
      number = 0;
      is_over = false;
      is_designated = false;
      is_filled = false;
      length = 0;
      behind = behind;
    }

-- while its part with this number is being filled
abbrev pub at_part : (number : ℕ) → Level → Level
at_part number level = record level { number = number; is_designated = false }

-- the same, where a designator led there
abbrev pub designated_part : (number : ℕ) → Level → Level
designated_part number level = record level { number = number; is_designated = true }

-- none of its parts takes the next item
abbrev pub ended : Level → Level
ended level = record level { is_over = true }

-- An element that takes no item ends its array, unless a designator led to it.
abbrev pub goes_on_behind : Level → (is_filled : Bool) → Bool
goes_on_behind level is_filled = level.is_designated || (is_filled || not (is_array level.type_))

-- behind its part that was being filled, which took an item or didn't
abbrev pub behind_part : Level → (is_filled : Bool) → Level
behind_part level is_filled =
    record {
      type_ = level.type_;
      path = level.path;
      number = suc level.number;
      is_over = not (goes_on_behind level is_filled);
      is_designated = false;
      is_filled = level.is_filled || is_filled;
      length = max level.length (length_with level.number is_filled);
      behind = level.behind;
    }

-- A part that is to be filled, and the levels in which it lies, from the innermost on.
pub record Place : Type 0 where
  pub part : Part
  pub level : Level
  pub levels : List Level

-- the part to which a way leads from a level: each part on the way is a level of its own
abbrev pub place_along : Level → List Level → Part → List Part → Place
place_along level levels part [] = record { part = part; level = designated_part part.number level; levels = levels }
place_along level levels part (next ∷ way) =
    place_along (opened part.type_ (path_to level.type_ level.path part) None) (designated_part part.number level ∷ levels) next way
