-- What a place gives when it is read, and what a store does to it. Faults are looked for first.
use Rattle.std.specs.Prelude.{ℕ, Bool, false, ℤ, pos, List, [], ◌∷◌, Option, Some, None, nat_lt, slice_get, slice_set, if◌then◌else◌}
use Rattle.std.specs.Ordering.{int_eq}
use Rattle.std.specs.Str.{bytes_eq}
use Rattle.vocabulary.specs.declared.int_kind.IntKind.{IntKind}
use Rattle.vocabulary.specs.declared.int_kind.IntKind.TheVariants as kinds
use Rattle.meaning_types.specs.Types.{TypeTree, Typed, BaseTree, IntegerTree, PointerTree, flags_of, has_flag}
use Rattle.meaning_types.specs.Equality.{are_same}
use Rattle.meaning_constants.specs.Numbers.{converted}
use Rattle.meaning_machine.specs.Values.{Spot, Null, Foreign, In, Value, Integer, Pointer, Lvalue, Made, ForObject, ForFunction, Cell, Block}
use Rattle.meaning_machine.specs.Outcomes.{NullPointer, DeadBlock, ForeignPointer, OutOfBounds, IndeterminateValue, ReadOnly, AccessFault, SpaceFault, RestrictedFault, ShapeFault, Answer, Gives, IsFault, IsUndefined}
use Rattle.meaning_machine.specs.Tests.{differ_in_flags_alone}

-- The one conversion: what a value becomes when it is stored to a place of this type (6.3, 6.5.16.1)

-- each pointer but a null one is true (6.3.1.2)
abbrev pub spot_truth : Spot → ℤ
spot_truth Null = pos 0
spot_truth spot = pos 1

-- A plain integer becomes any integer type, and a plain 0 a null pointer (6.3.1.3, 6.3.2.3 p3). All integer types are
-- plain, so a restricted number meets another identity in each.
abbrev pub adopt_integer : IntKind → Option ℕ → Bool → ℤ → BaseTree → Answer Value
adopt_integer kind None false number (IntegerTree wanted) = Gives (Integer wanted None false (converted wanted number))
adopt_integer kind None false number (PointerTree wanted) =
    if int_eq number (pos 0) then Gives (Pointer wanted Null) else IsFault ShapeFault
adopt_integer kind (Some identity) fouled number (IntegerTree wanted) = IsFault RestrictedFault
adopt_integer kind restricted fouled number base = IsFault ShapeFault

-- a pointer keeps its own target, and is 0 or 1 as a _Bool (6.3.1.2)
abbrev pub adopt_pointer : TypeTree → Spot → BaseTree → Answer Value
adopt_pointer target spot (PointerTree wanted) =
    if are_same target wanted then Gives (Pointer target spot)
    else (if differ_in_flags_alone target wanted then IsFault SpaceFault
    else IsFault ShapeFault)
adopt_pointer target spot (IntegerTree kinds.Bool) = Gives (Integer kinds.Bool None false (spot_truth spot))
adopt_pointer target spot base = IsFault ShapeFault

-- a value as a place of this type has it
abbrev pub adopt : Value → TypeTree → Answer Value
adopt (Integer kind restricted fouled number) (Typed base _ _) = adopt_integer kind restricted fouled number base
adopt (Pointer target spot) (Typed base _ _) = adopt_pointer target spot base

-- Cells

-- what the cell at this path holds, if there is one: a value, or nothing that is determinate
abbrev pub content_at : List Cell → List ℕ → Option (Option Value)
content_at [] path = None
content_at (cell ∷ cells) path = if bytes_eq cell.path path then Some cell.content else content_at cells path

-- the cells, of which the one at this path now holds the value
abbrev pub with_content : List Cell → List ℕ → Value → List Cell
with_content [] path value = []
with_content (cell ∷ cells) path value =
    if bytes_eq cell.path path then record cell { content = Some value } ∷ cells else cell ∷ with_content cells path value

-- the block, whose cell at this path now holds the value
abbrev pub block_with : Block → List ℕ → Value → Block
block_with block path value = record block { cells = with_content block.cells path value }

-- the block is made for objects of this type
abbrev pub is_made_for : Made → TypeTree → Bool
is_made_for (ForObject declared) type_ = are_same declared type_
is_made_for ForFunction type_ = false

-- the block is made for an object that is const
abbrev pub is_read_only : Made → Bool
is_read_only (ForObject (Typed _ qualifiers _)) = qualifiers.is_const
is_read_only ForFunction = false

-- A load

-- the value of a cell, if there is the cell and it is determinate
abbrev pub value_of_content : Option (Option Value) → Answer Value
value_of_content None = IsUndefined OutOfBounds
value_of_content (Some None) = IsUndefined IndeterminateValue
value_of_content (Some (Some value)) = Gives value

-- a load from an element of a block: its type is asked first, then whether it is alive, then the bounds
abbrev pub load_block : Option Block → TypeTree → List ℕ → ℕ → ℕ → Answer Value
load_block None type_ path index length = IsFault ShapeFault
load_block (Some block) type_ path index length =
    if is_made_for block.made type_
    then (if block.is_alive
    then (if nat_lt index length then value_of_content (content_at block.cells path) else IsUndefined OutOfBounds)
    else IsUndefined DeadBlock)
    else IsFault ShapeFault

-- a load from where a pointer points; a null or foreign one is undefined
abbrev pub load_spot : List Block → TypeTree → Spot → Answer Value
load_spot blocks type_ Null = IsUndefined NullPointer
load_spot blocks type_ Foreign = IsUndefined ForeignPointer
load_spot blocks type_ (In block path index length) = load_block (slice_get blocks block) type_ path index length

-- a load from a place; of one with a flag it is a fault
abbrev pub load : List Block → Lvalue → Answer Value
load blocks place = if has_flag (flags_of place.type_) then IsFault AccessFault else load_spot blocks place.type_ place.spot

-- A store of a value that was adopted

-- a store to an element of a block: whether it is alive is asked first, then the bounds, then const
abbrev pub store_block : List Block → ℕ → Option Block → List ℕ → ℕ → ℕ → Value → Answer (List Block)
store_block blocks number None path index length value = IsUndefined OutOfBounds
store_block blocks number (Some block) path index length value =
    if block.is_alive
    then (if nat_lt index length
    then (if is_read_only block.made then IsUndefined ReadOnly
    else Gives (slice_set blocks number (block_with block path value)))
    else IsUndefined OutOfBounds)
    else IsUndefined DeadBlock

-- a store to where a pointer points; a null or foreign one is undefined
abbrev pub store : List Block → Spot → Value → Answer (List Block)
store blocks Null value = IsUndefined NullPointer
store blocks Foreign value = IsUndefined ForeignPointer
store blocks (In block path index length) value = store_block blocks block (slice_get blocks block) path index length value
