-- The arguments of a call in a row.
use Rattle.std.specs.Prelude.{◌≡◌, ◌+◌, ◌++◌, ℕ, List, [], ◌∷◌, length, map}
use Rattle.meaning_macros.specs.Hiding.{Hiding}
use Rattle.c_macros.specs.Reading.{Reading, hidings_by}
use Rattle.c_macros.specs.declared.arguments.Arguments.{Arguments}
use Rattle.c_macros.specs.declared.item.Item.{Item}

-- lists, one behind the other
abbrev pub in_a_row : List (List Item) → List Item
in_a_row [] = []
in_a_row (list ∷ lists) = list ++ in_a_row lists

-- where each of them ends, if the first begins here
abbrev pub ends_from : ℕ → List (List Item) → List ℕ
ends_from first [] = []
ends_from first (list ∷ lists) = (first + length list) ∷ ends_from (first + length list) lists

-- these are the arguments
pub record HasArguments (arguments : Arguments) (lists : List (List Item)) : Type 0 where
  -- what stands before them belongs to others
  pub before : List Item
  pub items : arguments.items.now ≡ before ++ in_a_row lists
  pub first : arguments.first ≡ length before
  pub ends : arguments.ends.now ≡ ends_from (length before) lists

-- the arguments, as they are read
abbrev pub arguments_by : Reading → List (List Item) → List (List Hiding)
arguments_by r lists = map (hidings_by r) lists
