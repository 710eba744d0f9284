-- The levels of arrays, the parameters of functions, and what was added to types.
use Rattle.std.specs.Prelude.{◌≡◌, ℕ, ◌<◌, List, [], ◌∷◌, Some, None, length, slice_get}
use Rattle.std.specs.List.{AllByRecursion}
use Rattle.meaning_types.specs.Types.{TypeTree, Typed, ArrayTree, MoreTypes}
use Rattle.meaning_types.specs.Marks.{marked}
use Rattle.c_types.specs.declared.form.Marking.{Marking}
use Rattle.c_types.specs.declared.levels.Levels.{Levels}
use Rattle.c_types.specs.Forms.{element_in}
use Rattle.c_types.specs.Rows.{Row, IsFunction, is_variadic, parameter_types, result_of, type_numbered, types_of, qualifiers_in, flags_in}

-- the array has this element
abbrev pub IsLevel : List Row → ℕ → ℕ → Type 0
IsLevel rows array element = (row : Row) × (slice_get rows array ≡ Some row) × (element_in row.0.form ≡ Some element)

-- the type is no array
abbrev pub IsSingle : List Row → ℕ → Type 0
IsSingle rows number = (row : Row) × (slice_get rows number ≡ Some row) × (element_in row.0.form ≡ None)

-- from a type on each is the element of the one before, down to the inner one
abbrev pub IsChain : List Row → ℕ → List ℕ → ℕ → Type 0
IsChain rows whole [] inner = whole ≡ inner
IsChain rows whole (array ∷ arrays) inner = (whole ≡ array) × ((element : ℕ) × IsLevel rows array element × IsChain rows element arrays inner)

-- these are all levels of a type
pub record AreLevels (rows : List Row) (levels : Levels) : Type 0 where
  pub chain : IsChain rows levels.whole levels.arrays.items levels.inner
  pub single : IsSingle rows levels.inner

-- an array with another element; another type stays
abbrev pub over_element : TypeTree → TypeTree → TypeTree
over_element (Typed (ArrayTree element count) qualifiers flags) other = Typed (ArrayTree other count) qualifiers flags
over_element (Typed base qualifiers flags) other = Typed base qualifiers flags

-- a function type has this first parameter, and the other type is what is left without it
pub record BeginsWith (types : List TypeTree) (number first rest : ℕ) : Type 0 where
  pub first_known : first < length types
  pub rest_known : rest < length types
  pub earlier : rest < number
  pub function : IsFunction (type_numbered types rest)
  pub result : result_of (type_numbered types number) ≡ result_of (type_numbered types rest)
  pub parameters : parameter_types (type_numbered types number) ≡ MoreTypes (type_numbered types first) (parameter_types (type_numbered types rest))
  pub variadic : is_variadic (type_numbered types number) ≡ is_variadic (type_numbered types rest)

-- the type with this number is the other one with what is added to it
pub record IsMarked (types : List TypeTree) (marking : Marking) (number : ℕ) : Type 0 where
  pub known : marking.number < length types
  pub stands : slice_get types number ≡ Some (marked (qualifiers_in marking.marks) (flags_in marking.marks) (type_numbered types marking.number))

-- what is remembered of types to which something was added is right
abbrev pub AreMarkings : List Row → List (Marking × ℕ) → Type 0
AreMarkings rows markings = AllByRecursion (λ entry. IsMarked (types_of rows) entry.0 entry.1) markings
