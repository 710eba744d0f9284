-- Bodies as a unit tells them: members are known by their types, and a type by the layouts that were told before, so each
-- body is looked at once. What is asked of a type afterwards.
use Rattle.std.specs.Prelude.{ℕ, ◌==◌, max, Bool, Option, Some, None, Result, Ok, Err, List, [], ◌∷◌, slice_get, if◌then◌else◌}
use Rattle.meaning_types.specs.Types.{TypeTree, Typed, IntegerTree, RestrictedTree, AggregateTree}
use Rattle.meaning_layout.specs.Bodies.{LayoutMember}
use Rattle.meaning_layout.specs.Layouts.{Layout, LayoutFault, Incomplete, layout_of}
use Rattle.meaning_layout.specs.Sizes.{Extent, FieldBits, Told, field_with, member_extent, offset_at}

-- a member as it is told
pub record ToldMember : Type 0 where
  pub of : TypeTree
  -- how many bits are written behind a colon
  pub width : Option ℕ
  -- whether it is no bit-field without a name
  pub named : Bool
  -- the largest alignment that is written at it, in bytes, and 1 without one
  pub written : ℕ

-- what stands between the braces of a structure or a union, and what its attributes say
pub record ToldBody : Type 0 where
  pub members : List ToldMember
  pub packed : Bool
  -- the largest alignment that is written at it, in bytes, and 1 without one
  pub written : ℕ

-- a written alignment of 0 has no effect (6.7.5 p6)
abbrev pub effective : ℕ → ℕ
effective written = max 1 written

-- the bits of a bit-field, which has a type of integers (6.7.2.1 p5)
abbrev pub field_width : TypeTree → Option ℕ → Option ℕ
field_width (Typed (IntegerTree kind) _ _) width = width
field_width (Typed (RestrictedTree kind identity) _ _) width = width
field_width (Typed base _ _) width = None

-- a member whose type takes this
abbrev pub placed_with : ToldMember → Result Extent LayoutFault → Result LayoutMember LayoutFault
placed_with member (Err fault) = Err fault
placed_with member (Ok extent) =
    Ok (record { size = extent.size; align = extent.align; width = field_width member.of member.width; named = member.named; written = effective member.written })

abbrev pub placed_member : Told → ToldMember → Result LayoutMember LayoutFault
placed_member told member = placed_with member (member_extent told member.of)

-- a member and the ones behind it, or the first reason that one has no size
abbrev pub member_before : Result LayoutMember LayoutFault → Result (List LayoutMember) LayoutFault → Result (List LayoutMember) LayoutFault
member_before (Err fault) members = Err fault
member_before (Ok member) (Err fault) = Err fault
member_before (Ok member) (Ok members) = Ok (member ∷ members)

abbrev pub placed_members : Told → List ToldMember → Result (List LayoutMember) LayoutFault
placed_members told [] = Ok []
placed_members told (member ∷ members) = member_before (placed_member told member) (placed_members told members)

-- the layout of a body whose members take this
abbrev pub layout_by_members : ToldBody → (is_union : Bool) → Result (List LayoutMember) LayoutFault → Result Layout LayoutFault
layout_by_members body is_union (Err fault) = Err fault
layout_by_members body is_union (Ok members) =
    layout_of (record { members = members; is_union = is_union; packed = body.packed; written = effective body.written })

-- the layout of a body by those that were told before: where a member has no size, there is none for the same reason
abbrev pub layout_told : Told → ToldBody → (is_union : Bool) → Result Layout LayoutFault
layout_told told body is_union = layout_by_members body is_union (placed_members told body.members)

-- Telling

-- no aggregate was told
abbrev pub nothing_told : Told
nothing_told number is_union = None

-- what was told first stays
abbrev pub told_before : Option (Result Layout LayoutFault) → Result Layout LayoutFault → Option (Result Layout LayoutFault)
told_before (Some made) later = Some made
told_before None later = Some later

-- the body of one more aggregate
abbrev pub tell : Told → ℕ → ToldBody → Told
tell told aggregate body number is_union =
    if number == aggregate then told_before (told number is_union) (layout_told told body is_union) else told number is_union

-- aggregates by their numbers, in the order in which their bodies are told
abbrev pub told_in_order : Told → List (ℕ × ToldBody) → Told
told_in_order told [] = told
told_in_order told (entry ∷ bodies) = told_in_order (tell told entry.0 entry.1) bodies

-- Questions

abbrev pub size_in : Result Extent LayoutFault → Result ℕ LayoutFault
size_in (Err fault) = Err fault
size_in (Ok extent) = Ok extent.size

abbrev pub align_in : Result Extent LayoutFault → Result ℕ LayoutFault
align_in (Err fault) = Err fault
align_in (Ok extent) = Ok extent.align

-- of an aggregate that wasn't told
abbrev pub or_incomplete : Option (Result Layout LayoutFault) → Result Layout LayoutFault
or_incomplete None = Err Incomplete
or_incomplete (Some made) = made

-- where the members of a type's objects lie
abbrev pub layout_in : Told → TypeTree → Result Layout LayoutFault
layout_in told (Typed (AggregateTree number is_union) _ _) = or_incomplete (told number is_union)
layout_in told (Typed base _ _) = Err Incomplete

-- in which byte a member begins, a bit-field too, if there is one with this number
abbrev pub offset_in : ℕ → Result Layout LayoutFault → Result (Option ℕ) LayoutFault
offset_in member (Err fault) = Err fault
offset_in member (Ok layout) = Ok (offset_at layout member)

-- the bits of a member, if it is a bit-field with this width
abbrev pub field_in : Option ℕ → ℕ → Result Layout LayoutFault → Option FieldBits
field_in width member (Err fault) = None
field_in width member (Ok layout) = field_with (slice_get layout.first_bits member) width
