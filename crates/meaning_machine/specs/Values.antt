-- Values that carry their type, and when a value fits a type.
use Rattle.std.specs.Prelude.{◌≡◌, ℕ, ◌≤◌, Bool, false, ℤ, List, [], Option, Some, None, slice_get}
use Rattle.vocabulary.specs.declared.int_kind.IntKind.{IntKind}
use Rattle.meaning_types.specs.Types.{TypeTree, Typed, BaseTree, IntegerTree, PointerTree, bare}
use Rattle.meaning_constants.specs.Numbers.{IsInRange}

-- where a pointer points
pub data Spot : Type 0 where
  Null : Spot
  -- somewhere outside of all blocks
  Foreign : Spot
  -- an element of a block: the path to its array, its index there, and how many elements the array has;
  -- an object that is no array is an array of one element (C11 6.5.6 p7)
  In : (block : ℕ) (path : List ℕ) (index length : ℕ) → Spot

-- a number or a pointer, with its type
pub data Value : Type 0 where
  -- with its kind, its restricted identity if it has one, whether it is fouled, and its number
  Integer : (kind : IntKind) (restricted : Option ℕ) (fouled : Bool) (number : ℤ) → Value
  -- with the whole type of its target
  Pointer : (target : TypeTree) (spot : Spot) → Value

-- an object as one may read or write it
pub record Lvalue : Type 0 where
  pub type_ : TypeTree
  pub spot : Spot

-- what a block is made for
pub data Made : Type 0 where
  ForObject : (declared : TypeTree) → Made
  ForFunction : Made

-- a scalar part of an object, by its path: a value, or indeterminate
pub record Cell : Type 0 where
  pub path : List ℕ
  pub content : Option Value

-- storage, which never changes what it is made for and never lives again
pub record Block : Type 0 where
  pub made : Made
  pub is_alive : Bool
  pub cells : List Cell

-- the block has so many elements of this type at the path; an object of the first form is one element
abbrev pub HasElements : Block → List ℕ → ℕ → TypeTree → Type 0
HasElements block path count type_ =
    (declared : TypeTree) × (block.made ≡ ForObject declared) × (path ≡ []) × (count ≡ 1) × (bare declared ≡ bare type_)

-- a pointer to this type may point there: also just behind the last element (6.5.6 p8)
abbrev pub SpotFits : List Block → Spot → TypeTree → Type 0
SpotFits blocks Null target = Unit {0}
SpotFits blocks Foreign target = Unit {0}
SpotFits blocks (In block path index length) target =
    (there : Block) × (slice_get blocks block ≡ Some there) × HasElements there path length target × (index ≤ length)

-- a plain number that the kind holds, or a pointer with the wanted bare target and a spot that fits it; the first
-- form has values of no other type
abbrev pub ValueFits : List Block → Value → BaseTree → Type 0
ValueFits blocks (Integer kind restricted fouled number) (IntegerTree wanted) =
    (kind ≡ wanted) × (restricted ≡ None) × (fouled ≡ false) × IsInRange kind number
ValueFits blocks (Pointer target spot) (PointerTree wanted) = (bare target ≡ bare wanted) × SpotFits blocks spot wanted
ValueFits blocks value base = ⊥

-- the value fits the type: const and volatile make no difference, and its outermost flags are the place's alone
abbrev pub Fits : List Block → Value → TypeTree → Type 0
Fits blocks value (Typed base qualifiers flags) = ValueFits blocks value base
