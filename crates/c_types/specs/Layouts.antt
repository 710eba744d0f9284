-- The layouts of the aggregates that were told: which they are, and how they are kept.
use Rattle.std.specs.Prelude.{ℕ, ◌<◌, ◌||◌, Bool, true, false, Option, Some, None, Result, Ok, Err, List, ◌++◌, IfOk, IfSome, is_none, is_some, map, length, nat_eq, option_map, replicate, slice_get}
use Rattle.std.specs.Global.{Vec}
use Rattle.std.specs.Map.{lookup}
use Rattle.meaning_types.specs.Types.{TypeTree, Typed, ArrayTree, AggregateTree}
use Rattle.meaning_layout.specs.Bodies.{LayoutMember}
use Rattle.meaning_layout.specs.Layouts.{Layout}
use Rattle.meaning_layout.specs.Layouts as meaning
use Rattle.meaning_layout.specs.Sizes as sizes
use Rattle.meaning_layout.specs.Telling.{ToldBody, ToldMember, field_width, nothing_told, told_in_order}
use Rattle.body_layout.specs.declared.member.PlacedMember.{PlacedMember}
use Rattle.body_layout.specs.declared.structure.BodyLayout.{BodyLayout}
use Rattle.body_layout.specs.declared.union.Extent.{Extent}
use Rattle.body_layout.specs.Seen.{IsNarrow, member_seen}
use Rattle.c_types.specs.declared.bodies.AggregateBody.{AggregateBody}
use Rattle.c_types.specs.declared.bodies.Member.{Member}
use Rattle.c_types.specs.declared.layouts.AggregateLayout.{AggregateLayout}
use Rattle.c_types.specs.declared.layouts.LayoutFault.{LayoutFault}
use Rattle.c_types.specs.declared.layouts.LayoutFault.TheVariants as faults
use Rattle.c_types.specs.Rows.{type_numbered}
use Rattle.c_types.specs.Table.{TypeTable, body_in, types_in}

-- Bodies as they are told

-- a member over these types: one without a name is a bit-field, but for an anonymous structure or union
abbrev pub member_told : List TypeTree → Member → ToldMember
member_told types member =
    record { of = type_numbered types member.of.0; width = member.width; named = is_some member.name || is_none member.width; written = member.align }

abbrev pub body_seen : List TypeTree → AggregateBody → ToldBody
body_seen types body = record { members = map (member_told types) body.members; packed = body.packed; written = body.align }

abbrev pub body_told : List TypeTree → ℕ × AggregateBody → ℕ × ToldBody
body_told types entry = (entry.0, body_seen types entry.1)

-- what the bodies told, in their order
abbrev pub told_of_bodies : List TypeTree → List (ℕ × AggregateBody) → sizes.Told
told_of_bodies types bodies = told_in_order nothing_told (map (body_told types) bodies)

-- the layouts of a table's aggregates
abbrev pub told_in : TypeTable → sizes.Told
told_in table = told_of_bodies (types_in table) table.bodies

-- Questions

-- the number is that of a member, if the type is an aggregate whose members were told
abbrev pub HasMember : TypeTable → TypeTree → ℕ → Type 0
HasMember table (Typed (AggregateTree aggregate is_union) _ _) member = IfSome (body_in table aggregate) (λ body. member < length body.members)
HasMember table (Typed base _ _) member = Unit {0}

abbrev pub width_of : List TypeTree → Option Member → Option ℕ
width_of types None = None
width_of types (Some member) = field_width (type_numbered types member.of.0) member.width

abbrev pub width_among : List TypeTree → ℕ → Option AggregateBody → Option ℕ
width_among types member None = None
width_among types member (Some body) = width_of types (slice_get body.members member)

-- the width of the member with this number, if it is a bit-field
abbrev pub width_in : TypeTable → TypeTree → ℕ → Option ℕ
width_in table (Typed (AggregateTree aggregate is_union) _ _) member = width_among (types_in table) member (body_in table aggregate)
width_in table (Typed base _ _) member = None

-- How answers are seen

abbrev pub fault_seen : LayoutFault → meaning.LayoutFault
fault_seen faults.Incomplete = meaning.Incomplete
fault_seen faults.TooLarge = meaning.TooLarge

abbrev pub extent_seen : Result Extent LayoutFault → Result sizes.Extent meaning.LayoutFault
extent_seen (Err fault) = Err (fault_seen fault)
extent_seen (Ok extent) = Ok (record { size = extent.size; align = extent.align })

abbrev pub number_seen : Result ℕ LayoutFault → Result ℕ meaning.LayoutFault
number_seen (Err fault) = Err (fault_seen fault)
number_seen (Ok number) = Ok number

-- the first bit of a member, if there is one with this number
abbrev pub bit_in : ℕ → Result Layout meaning.LayoutFault → Result (Option ℕ) meaning.LayoutFault
bit_in member (Err fault) = Err fault
bit_in member (Ok layout) = Ok (slice_get layout.first_bits member)

abbrev pub bit_seen : Result ℕ LayoutFault → Result (Option ℕ) meaning.LayoutFault
bit_seen (Err fault) = Err (fault_seen fault)
bit_seen (Ok bit) = Ok (Some bit)

-- How layouts are kept

abbrev pub structure_kept : Result BodyLayout LayoutFault → Result Layout meaning.LayoutFault
structure_kept (Err fault) = Err (fault_seen fault)
structure_kept (Ok layout) = Ok (record { first_bits = layout.first_bits.items; size = layout.size; align = layout.align })

-- the members of a union all begin with the first bit
abbrev pub union_kept : ℕ → Result Extent LayoutFault → Result Layout meaning.LayoutFault
union_kept count (Err fault) = Err (fault_seen fault)
union_kept count (Ok extent) = Ok (record { first_bits = replicate count 0; size = extent.size; align = extent.align })

abbrev pub layout_kept : AggregateLayout → (is_union : Bool) → Result Layout meaning.LayoutFault
layout_kept kept true = union_kept kept.count kept.union
layout_kept kept false = structure_kept kept.structure

-- what is kept of aggregates, by their numbers
abbrev pub told_kept : List (ℕ × AggregateLayout) → sizes.Told
told_kept layouts number is_union = option_map (λ kept. layout_kept kept is_union) (lookup (nat_eq number) layouts)

-- each layout has a size and an alignment that an object may have
abbrev pub AreNarrow : sizes.Told → Type 0
AreNarrow told = (number : ℕ) (is_union : Bool) → IfSome (told number is_union) (λ made. IfOk made (λ layout. IsNarrow layout.size layout.align))

-- the same of one of them
abbrev pub IsNarrowLayout : AggregateLayout → Type 0
IsNarrowLayout kept = (is_union : Bool) → IfOk (layout_kept kept is_union) (λ layout. IsNarrow layout.size layout.align)

-- How layouts are made

-- a member that is placed, or the reason that it has no size
abbrev pub one_placed : Result PlacedMember LayoutFault → Result LayoutMember meaning.LayoutFault
one_placed (Err fault) = Err (fault_seen fault)
one_placed (Ok member) = Ok (member_seen member)

-- members that are placed, and those behind them
abbrev pub placed_before : List PlacedMember → Result (List LayoutMember) meaning.LayoutFault → Result (List LayoutMember) meaning.LayoutFault
placed_before placed (Err fault) = Err fault
placed_before placed (Ok others) = Ok (map member_seen placed ++ others)

-- members that are all placed, or the first reason that one has no size
abbrev pub members_placed : Result (Vec PlacedMember) LayoutFault → Result (List LayoutMember) meaning.LayoutFault
members_placed (Err fault) = Err (fault_seen fault)
members_placed (Ok placed) = Ok (map member_seen placed.items)

-- the element of an array whose length isn't known
abbrev pub open_element_of : TypeTree → Option TypeTree
open_element_of (Typed (ArrayTree element None) _ _) = Some element
open_element_of (Typed base _ _) = None
