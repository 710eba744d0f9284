-- How members and layouts are seen.
use Rattle.std.specs.Prelude.{◌≡◌, ℕ, ◌<◌, ◌≤◌, ◌^◌, Bool, true, false, Option, Some, None, Result, Ok, Err, List, map}
use Rattle.meaning_layout.specs.Bodies.{LayoutBody, LayoutMember}
use Rattle.meaning_layout.specs.Placing.{bit_behind, first_bits, largest_align}
use Rattle.meaning_layout.specs.Layouts.{Layout, LayoutFault, TooLarge, most_bytes}
use Rattle.body_layout.specs.declared.member.PlacedMember.{PlacedMember}
use Rattle.body_layout.specs.declared.placing.Placing.{Placing}
use Rattle.body_layout.specs.declared.structure.BodyLayout.{BodyLayout}
use Rattle.body_layout.specs.declared.union.Extent.{Extent}

abbrev pub member_seen : PlacedMember → LayoutMember
member_seen member = record { size = member.size; align = member.align; width = member.width; named = member.named; written = member.written }

-- A member of the language: an object is no larger than it may be, an alignment is at least 1, and a bit-field is of a
-- type that isn't empty.
pub record IsPlaced (member : PlacedMember) : Type 0 where
  pub size : member.size ≤ 2 ^ 40
  pub align : member.align ≤ 2 ^ 32
  pub some : 0 < member.align
  pub written : 0 < member.written
  pub narrow : member.written < 2 ^ 32
  pub field : (width : ℕ) → member.width ≡ Some width → 0 < member.size

-- a size and an alignment that an object may have
pub record IsNarrow (size align : ℕ) : Type 0 where
  pub few : size ≤ most_bytes
  pub some : 0 < align
  pub narrow : align ≤ 2 ^ 32

abbrev pub structure_body : (packed : Bool) → (written : ℕ) → List PlacedMember → LayoutBody
structure_body packed written members = record { members = map member_seen members; is_union = false; packed = packed; written = written }

abbrev pub union_body : (packed : Bool) → (written : ℕ) → List PlacedMember → LayoutBody
union_body packed written members = record { members = map member_seen members; is_union = true; packed = packed; written = written }

-- the layout of a structure, if it isn't too large
abbrev pub layout_seen : Option BodyLayout → Result Layout LayoutFault
layout_seen None = Err TooLarge
layout_seen (Some layout) = Ok (record { first_bits = layout.first_bits.items; size = layout.size; align = layout.align })

-- the layout of a union with these first bits, if it isn't too large
abbrev pub union_seen : List ℕ → Option Extent → Result Layout LayoutFault
union_seen bits None = Err TooLarge
union_seen bits (Some extent) = Ok (record { first_bits = bits; size = extent.size; align = extent.align })

-- members are placed from the first bit on
pub record Places (packed : Bool) (members : List LayoutMember) (placing : Placing) : Type 0 where
  pub bits : first_bits packed members 0 ≡ placing.first_bits.items
  pub behind : bit_behind packed members 0 ≡ placing.next
  pub align : largest_align packed members ≡ placing.align
  pub few : placing.next ≤ 2 ^ 43
  pub narrow : placing.align ≤ 2 ^ 32
  pub some : 0 < placing.align
