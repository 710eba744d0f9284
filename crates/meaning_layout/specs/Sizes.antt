-- The sizes and alignments of types, in bytes (C11 6.5.3.4, 6.2.8). An aggregate has those of its layout, which is made when
-- its members are told, so that nothing is looked at twice.
use Rattle.std.specs.Prelude.{ℕ, ◌+◌, ◌*◌, ◌/◌, nat_le, Bool, Result, Ok, Err, Option, Some, None, List, slice_get, if◌then◌else◌}
use Rattle.meaning_types.specs.IntKind.{IntKind}
use Rattle.meaning_types.specs.Types.{TypeTree, Typed, BaseTree, VoidTree, IntegerTree, RestrictedTree, PointerTree, ArrayTree, FunctionTree, AggregateTree}
use Rattle.meaning_types.specs.Ranges.{width}
use Rattle.meaning_layout.specs.Bodies.{LayoutMember}
use Rattle.meaning_layout.specs.Layouts.{Layout, LayoutFault, Incomplete, TooLarge, most_bytes}

-- the size and the alignment of a type
pub record Extent : Type 0 where
  pub size : ℕ
  pub align : ℕ

-- the layouts of the aggregates that were told, by their numbers, each as a structure and as a union
abbrev pub Told : Type 0
Told = ℕ → (is_union : Bool) → Option (Result Layout LayoutFault)

-- so many bytes, which are their own alignment
abbrev pub scalar : ℕ → Extent
scalar bytes = record { size = bytes; align = bytes }

-- the bytes of an integer kind: its bits, rounded up (6.2.6.2: our choice of LP64)
abbrev pub bytes_of : IntKind → ℕ
bytes_of kind = (width kind + 7) / 8

-- the bytes of a pointer, to whatever it points
abbrev pub pointer_bytes : ℕ
pointer_bytes = 8

-- so many elements, one behind the other (6.2.5 p20)
abbrev pub array_extent : ℕ → Result Extent LayoutFault → Result Extent LayoutFault
array_extent length (Err fault) = Err fault
array_extent length (Ok element) =
    if nat_le (length * element.size) most_bytes then Ok (record { size = length * element.size; align = element.align }) else Err TooLarge

-- of an aggregate that was told, or wasn't yet
abbrev pub told_extent : Option (Result Layout LayoutFault) → Result Extent LayoutFault
told_extent None = Err Incomplete
told_extent (Some (Err fault)) = Err fault
told_extent (Some (Ok layout)) = Ok (record { size = layout.size; align = layout.align })

-- void, a function and an array without a length have no size (6.2.5 p1, p19)
abbrev mutual
  pub extent_of : Told → TypeTree → Result Extent LayoutFault
  extent_of told (Typed base qualifiers flags) = extent_of_base told base

  pub extent_of_base : Told → BaseTree → Result Extent LayoutFault
  extent_of_base told VoidTree = Err Incomplete
  extent_of_base told (IntegerTree kind) = Ok (scalar (bytes_of kind))
  extent_of_base told (RestrictedTree kind identity) = Ok (scalar (bytes_of kind))
  extent_of_base told (PointerTree target) = Ok (scalar pointer_bytes)
  extent_of_base told (ArrayTree element None) = Err Incomplete
  extent_of_base told (ArrayTree element (Some length)) = array_extent length (extent_of told element)
  extent_of_base told (FunctionTree result parameters variadic) = Err Incomplete
  extent_of_base told (AggregateTree number is_union) = told_extent (told number is_union)

-- Members

-- an array without a length behind all other members takes no room, and has the alignment of its element (6.7.2.1 p18)
abbrev pub member_extent : Told → TypeTree → Result Extent LayoutFault
member_extent told (Typed (ArrayTree element None) qualifiers flags) = array_extent 0 (extent_of told element)
member_extent told (Typed base qualifiers flags) = extent_of_base told base

abbrev pub byte_at : Option ℕ → Option ℕ
byte_at None = None
byte_at (Some bit) = Some (bit / 8)

-- in which byte a member begins, a bit-field too, if there is one with this number
abbrev pub offset_at : Layout → ℕ → Option ℕ
offset_at layout number = byte_at (slice_get layout.first_bits number)

-- the bits of a bit-field
pub record FieldBits : Type 0 where
  -- from the begin of its aggregate
  pub start : ℕ
  pub width : ℕ

abbrev pub field_with : Option ℕ → Option ℕ → Option FieldBits
field_with (Some bit) (Some width) = Some (record { start = bit; width = width })
field_with bit width = None

abbrev pub width_at : Option LayoutMember → Option ℕ
width_at None = None
width_at (Some member) = member.width

-- of the member with this number, if it is a bit-field
abbrev pub field_at : List LayoutMember → Layout → ℕ → Option FieldBits
field_at members layout number = field_with (slice_get layout.first_bits number) (width_at (slice_get members number))
