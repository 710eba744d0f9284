-- What decides whether two types agree where a length may be missing.
use Rattle.std.specs.Prelude.{ℕ, Bool, true, false, Option, Some, None}
use Rattle.meaning_types.specs.Types.{TypeTree, Typed, ArrayTree}
use Rattle.meaning_types.specs.Equality.{are_same}
use Rattle.sparse_model.specs.declared.ids.TypeId.{TypeId}
use Rattle.c_types.specs.Table.{TypeTable, type_at}

-- the element and the length of an array
abbrev pub array_in : TypeTree → Option (TypeTree × Option ℕ)
array_in (Typed (ArrayTree element length) _ _) = Some (element, length)
array_in (Typed base _ _) = None

-- the same by ids
abbrev pub array_seen : TypeTable → TypeId × Option ℕ → TypeTree × Option ℕ
array_seen table parts = (type_at table parts.0, parts.1)

-- an array without a length
abbrev pub is_open_array : TypeTree → Bool
is_open_array (Typed (ArrayTree element None) _ _) = true
is_open_array (Typed base _ _) = false

-- arrays of the same element, or other types that are the same
abbrev pub have_one_form : TypeTree → TypeTree → Bool
have_one_form (Typed (ArrayTree element length) _ _) (Typed (ArrayTree other another) _ _) = are_same element other
have_one_form type_ other = are_same type_ other
