-- The sizes, alignments and offsets that expressions ask for (C11 6.5.3.4, 7.19 p3).
use Rattle.std.specs.Prelude.{ℕ, ◌+◌, ◌*◌, ◌/◌, ℤ, pos, nat_le, Bool, Option, Some, None, List, [], ◌∷◌, Result, Ok, Err, option_map, if◌then◌else◌}
use Rattle.meaning_types.specs.Types.{TypeTree, Typed, VoidTree, ArrayTree, FunctionTree, AggregateTree}
use Rattle.meaning_layout.specs.Layouts.{Layout, LayoutFault, most_bytes}
use Rattle.meaning_layout.specs.Members.{FoundMember, Names, member_bits, named_member}
use Rattle.meaning_layout.specs.Sizes.{Extent, Told, scalar, extent_of_base}
use Rattle.meaning_layout.specs.Telling.{or_incomplete}

-- Sizes and alignments

abbrev pub extent_if_any : Result Extent LayoutFault → Option Extent
extent_if_any (Ok extent) = Some extent
extent_if_any (Err fault) = None

-- what `sizeof` and `_Alignof` see of a type: its layout; void and a function have 1 of both, as in GNU C
abbrev pub asked_extent : Told → TypeTree → Option Extent
asked_extent told (Typed VoidTree _ _) = Some (scalar 1)
asked_extent told (Typed (FunctionTree result parameters variadic) _ _) = Some (scalar 1)
asked_extent told (Typed base _ _) = extent_if_any (extent_of_base told base)

abbrev pub asked_size : Told → TypeTree → Option ℕ
asked_size told of = option_map (λ extent. extent.size) (asked_extent told of)

abbrev pub asked_align : Told → TypeTree → Option ℕ
asked_align told of = option_map (λ extent. extent.align) (asked_extent told of)

-- what types have of both, where they have it
pub record Sizes : Type 0 where
  pub size : TypeTree → Option ℕ
  pub align : TypeTree → Option ℕ

-- by the layouts that were told
abbrev pub sizes_by : Told → Sizes
sizes_by told = record { size = asked_size told; align = asked_align told }

-- Offsets. The type of names is left open.

-- a place in an object: so many bytes from its begin, and of this type
pub record ObjectPart : Type 0 where
  pub bytes : ℕ
  pub of : TypeTree

-- the members of the aggregates that were told: where each begins in its aggregate, and its type, by the aggregate's number,
-- whether it is a union, and the member's name
abbrev pub Members : Type 0 → Type 0
Members Name = ℕ → (is_union : Bool) → Name → Option ObjectPart

-- a member that begins at a bit, one of a bit-field too
abbrev pub part_at_bit : Option ℕ → TypeTree → Option ObjectPart
part_at_bit None of = None
part_at_bit (Some bit) of = Some (record { bytes = bit / 8; of = of })

abbrev pub part_found : Result Layout LayoutFault → Option FoundMember → Option ObjectPart
part_found layout None = None
part_found layout (Some found) = part_at_bit (member_bits layout found) found.of

-- by the names and the layouts that were told
abbrev pub members_by : {Name : Type 0} → Told → (Name → Name → Bool) → (ℕ → Names Name) → Members Name
members_by told are_equal names number is_union name =
    part_found (or_incomplete (told number is_union)) (named_member are_equal (names number) name)

-- a step from an object to a part of it (6.7.9 p6, p7)
pub data Designator (Name : Type 0) : Type 0 where
  NamedMember : Name → Designator Name
  -- an element, by its index where that is a constant
  ElementAt : Option ℤ → Designator Name

-- a spot, unless it lies further on than an object may have bytes
abbrev pub spot_within : (bytes : ℕ) → TypeTree → Option ObjectPart
spot_within bytes of = if nat_le bytes most_bytes then Some (record { bytes = bytes; of = of }) else None

-- so much further on
abbrev pub spot_behind : ℕ → Option ObjectPart → Option ObjectPart
spot_behind bytes None = None
spot_behind bytes (Some spot) = spot_within (bytes + spot.bytes) spot.of

-- the element with this index of so many bytes, if it has a size
abbrev pub element_spot : ℕ → TypeTree → Option ℕ → ℕ → Option ObjectPart
element_spot bytes element None index = None
element_spot bytes element (Some size) index = spot_within (bytes + index * size) element

-- where a designator leads from an object of this type; an index may lie behind the last element, and not before the first
abbrev pub designated : {Name : Type 0} → Told → Members Name → Designator Name → (bytes : ℕ) → TypeTree → Option ObjectPart
designated told members (NamedMember name) bytes (Typed (AggregateTree number is_union) _ _) = spot_behind bytes (members number is_union name)
designated told members (ElementAt (Some (pos index))) bytes (Typed (ArrayTree element length) _ _) =
    element_spot bytes element (asked_size told element) index
designated told members designator bytes of = None

abbrev pub spot_along : {Name : Type 0} → Told → Members Name → List (Designator Name) → Option ObjectPart → Option ObjectPart
spot_along told members [] spot = spot
spot_along told members (designator ∷ designators) None = None
spot_along told members (designator ∷ designators) (Some spot) = spot_along told members designators (designated told members designator spot.bytes spot.of)

-- how far what the designators lead to lies from the begin of an object of this type
abbrev pub offset_along : {Name : Type 0} → Told → Members Name → TypeTree → List (Designator Name) → Option ℕ
offset_along told members of designators = option_map (λ spot. spot.bytes) (spot_along told members designators (Some (record { bytes = 0; of = of })))
