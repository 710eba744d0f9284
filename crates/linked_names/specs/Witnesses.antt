-- The few declarations of a name that tell which is the first that disagrees with another type.
use Rattle.std.specs.Prelude.{◌≡◌, ℕ, ◌+◌, Bool, true, false, ◌&&◌, not, nat_le, List, [], ◌∷◌, Option, Some, None, option_map, IfSome, if◌then◌else◌, length}
use Rattle.std.specs.Option.{option_or}
use Rattle.sparse_model.specs.declared.ids.TypeId.{TypeId}
use Rattle.meaning_types.specs.Types.{TypeTree}
use Rattle.meaning_types.specs.Equality.{are_equal_bools, are_same}
use Rattle.c_types.specs.Table.{TypeTable, IsTypeId, type_at}
use Rattle.linked_names.specs.Forms.{have_one_form, is_open_array}
use Rattle.linked_names.specs.declared.placed.Placed.{Placed}
use Rattle.linked_names.specs.declared.group.Group.{Group}
use Rattle.linked_names.specs.declared.witnesses.Witnesses.{Witnesses}

-- Among types in order

-- a type, and its place
pub record PlacedType : Type 0 where
  pub place : ℕ
  pub type_ : TypeTree

-- the first that passes, where the first of all has this place
abbrev pub first_passing : (TypeTree → Bool) → (place : ℕ) → List TypeTree → Option PlacedType
first_passing test place [] = None
first_passing test place (type_ ∷ types) =
    if test type_ then Some (record { place = place; type_ = type_ }) else first_passing test (place + 1) types

-- of another form than the first of all
abbrev pub is_foreign : (first : TypeTree) → TypeTree → Bool
is_foreign first type_ = not (have_one_form first type_)

-- of its form, and among the open arrays or among the others
abbrev pub is_in_group : (first : TypeTree) → (are_open : Bool) → TypeTree → Bool
is_in_group first are_open type_ = have_one_form first type_ && are_equal_bools are_open (is_open_array type_)

-- there, and not the same as this one
abbrev pub differs_in_group : (first : TypeTree) → (are_open : Bool) → (type_ : TypeTree) → TypeTree → Bool
differs_in_group first are_open type_ other = is_in_group first are_open other && not (are_same type_ other)

-- the first that differs from the first of a group
abbrev pub second_in_group : (first : TypeTree) → (are_open : Bool) → Option PlacedType → List TypeTree → Option PlacedType
second_in_group first are_open None types = None
second_in_group first are_open (Some found) types = first_passing (differs_in_group first are_open found.type_) 0 types

-- What is kept, by ids of a table

abbrev pub placed_in : TypeTable → Placed → PlacedType
placed_in table placed = record { place = placed.place; type_ = type_at table placed.of }

-- the earlier of two
abbrev pub earlier_of : Option Placed → Option Placed → Option Placed
earlier_of (Some one) (Some other) = if nat_le one.place other.place then Some one else Some other
earlier_of (Some one) None = Some one
earlier_of None other = other

-- the first of a group that isn't the same as this type
abbrev pub unlike_in : TypeTable → Option Placed → Option Placed → TypeTree → Option Placed
unlike_in table None second type_ = None
unlike_in table (Some first) second type_ = if are_same (type_at table first.of) type_ then second else Some first

abbrev pub unlike_in_group : TypeTable → Group → TypeTree → Option Placed
unlike_in_group table group type_ = unlike_in table group.first group.second type_

-- the second of a group, once another one has joined
abbrev pub second_with : TypeTable → Option Placed → Option Placed → Placed → Option Placed
second_with table None second next = None
second_with table (Some first) second next =
    option_or second (if are_same (type_at table first.of) (type_at table next.of) then None else Some next)

abbrev pub group_with : TypeTable → Group → Placed → Group
group_with table group next =
    record { first = option_or group.first (Some next); second = second_with table group.first group.second next }

abbrev pub no_group : Group
no_group = record { first = None; second = None }

-- all of them, once a declaration of this type has joined
abbrev pub witnesses_with : TypeTable → Witnesses → TypeId → Witnesses
witnesses_with table witnesses of =
    let next : Placed = record { place = witnesses.count; of = of } in
    if have_one_form (type_at table witnesses.first) (type_at table of)
    then (if is_open_array (type_at table of)
    then record witnesses { count = witnesses.count + 1; open_arrays = group_with table witnesses.open_arrays next }
    else record witnesses { count = witnesses.count + 1; others = group_with table witnesses.others next })
    else record witnesses { count = witnesses.count + 1; foreign = option_or witnesses.foreign (Some next) }

-- none yet, where this is to be the first
abbrev pub no_witnesses : TypeId → Witnesses
no_witnesses first = record { first = first; count = 0; foreign = None; open_arrays = no_group; others = no_group }

-- the type of the first that disagrees with this one
abbrev pub unlike_witness : TypeTable → Witnesses → TypeId → Option TypeId
unlike_witness table witnesses of =
    if have_one_form (type_at table witnesses.first) (type_at table of)
    then option_map (λ placed. placed.of)
    (earlier_of witnesses.foreign (unlike_in_group table (if is_open_array (type_at table of) then witnesses.open_arrays else witnesses.others) (type_at table of)))
    else Some witnesses.first

-- That it is right

abbrev pub IsPlacedId : TypeTable → Option Placed → Type 0
IsPlacedId table placed = IfSome placed (λ one. IsTypeId table one.of)

pub record AreGroupIds (table : TypeTable) (group : Group) : Type 0 where
  pub first : IsPlacedId table group.first
  pub second : IsPlacedId table group.second

-- all that is kept are types of the table
pub record AreWitnessIds (table : TypeTable) (witnesses : Witnesses) : Type 0 where
  pub first : IsTypeId table witnesses.first
  pub foreign : IsPlacedId table witnesses.foreign
  pub open_arrays : AreGroupIds table witnesses.open_arrays
  pub others : AreGroupIds table witnesses.others

-- the group is that of these types
pub record IsGroup (table : TypeTable) (first_type : TypeTree) (are_open : Bool) (types : List TypeTree) (group : Group) : Type 0 where
  pub first : option_map (placed_in table) group.first ≡ first_passing (is_in_group first_type are_open) 0 types
  pub second :
      option_map (placed_in table) group.second
      ≡ second_in_group first_type are_open (first_passing (is_in_group first_type are_open) 0 types) types

-- these are the witnesses of these types
pub record AreWitnesses (table : TypeTable) (types : List TypeTree) (witnesses : Witnesses) : Type 0 where
  pub count : witnesses.count ≡ length types
  pub foreign : option_map (placed_in table) witnesses.foreign ≡ first_passing (is_foreign (type_at table witnesses.first)) 0 types
  pub open_arrays : IsGroup table (type_at table witnesses.first) true types witnesses.open_arrays
  pub others : IsGroup table (type_at table witnesses.first) false types witnesses.others
