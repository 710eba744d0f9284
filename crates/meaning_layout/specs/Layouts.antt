-- The layout of a structure or a union: where its members lie, its size and its alignment.
use Rattle.std.specs.Prelude.{ℕ, ◌+◌, ◌/◌, max, nat_le, Result, Ok, Err, List, map, if◌then◌else◌}
use Rattle.meaning_layout.specs.Bodies.{LayoutBody}
use Rattle.meaning_layout.specs.Placing.{bit_behind, first_bits, largest_align, largest_bits, next_multiple}

pub record Layout : Type 0 where
  -- the first bit of each member
  pub first_bits : List ℕ
  -- in bytes
  pub size : ℕ
  pub align : ℕ

-- why there is none
pub data LayoutFault : Type 0 where
  -- no size is known of it, or there is none
  Incomplete : LayoutFault
  -- it would have more bytes than an object may have
  TooLarge : LayoutFault

-- the most bytes that an object may have: 2^40
abbrev pub most_bytes : ℕ
most_bytes = 1099511627776

-- where the members lie: in a union all begin with the first bit (6.7.2.1 p16)
abbrev pub bits_in : LayoutBody → List ℕ
bits_in body = if body.is_union then map (λ member. 0) body.members else first_bits body.packed body.members 0

-- the bit behind the last of them
abbrev pub bits_behind : LayoutBody → ℕ
bits_behind body = if body.is_union then largest_bits body.members else bit_behind body.packed body.members 0

-- the largest alignment of a member, or a larger one that is written
abbrev pub align_of_body : LayoutBody → ℕ
align_of_body body = max (largest_align body.packed body.members) body.written

-- the bytes of all members, and padding up to a multiple of the alignment (6.7.2.1 p17)
abbrev pub size_of_body : LayoutBody → ℕ
size_of_body body = next_multiple (align_of_body body) ((bits_behind body + 7) / 8)

-- the layout of a body
abbrev pub layout_of : LayoutBody → Result Layout LayoutFault
layout_of body =
    if nat_le (size_of_body body) most_bytes then Ok (record { first_bits = bits_in body; size = size_of_body body; align = align_of_body body })
    else Err TooLarge
