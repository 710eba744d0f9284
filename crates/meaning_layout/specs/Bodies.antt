-- What a layout asks of a structure or a union (C11 6.7.2.1).
use Rattle.std.specs.Prelude.{ℕ, max, Bool, Option, List, if◌then◌else◌}

-- A member. Its type is complete, and known by its size and its alignment in bytes; an array without a length behind
-- all other members has the size 0 (6.7.2.1 p18).
pub record LayoutMember : Type 0 where
  pub size : ℕ
  pub align : ℕ
  -- of a bit-field, in bits
  pub width : Option ℕ
  -- an unnamed member is a bit-field (6.7.2.1 p12)
  pub named : Bool
  -- the largest alignment that is written at it, and 1 without one
  pub written : ℕ

-- the body of a structure or a union
pub record LayoutBody : Type 0 where
  -- in order
  pub members : List LayoutMember
  pub is_union : Bool
  -- its members have no alignment by their types
  pub packed : Bool
  -- the largest alignment that is written at it, and 1 without one
  pub written : ℕ

-- the alignment of a member: that of its type, unless the body is packed, or a larger one that is written
abbrev pub member_align : (packed : Bool) → LayoutMember → ℕ
member_align packed member = max (if packed then 1 else member.align) member.written

-- the alignment that a member gives to its body; an unnamed bit-field gives none
abbrev pub given_align : (packed : Bool) → LayoutMember → ℕ
given_align packed member = if member.named then member_align packed member else 1
