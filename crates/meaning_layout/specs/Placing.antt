-- Where members lie, in bits from the first one of their body (C11 6.7.2.1 p11 to p16). That a bit-field lies in one
-- unit of its declared type, at the next bit where it can, is our choice, that of GNU C.
use Rattle.std.specs.Prelude.{ℕ, zero, suc, ◌+◌, ◌-◌, ◌*◌, ◌/◌, ◌==◌, max, Bool, Option, Some, None, List, [], ◌∷◌, if◌then◌else◌}
use Rattle.meaning_layout.specs.Bodies.{LayoutMember, given_align, member_align}

-- the next multiple of a step, or the number itself where it is one
abbrev pub next_multiple : (step number : ℕ) → ℕ
next_multiple step number = (number + (step - 1)) / step * step

-- the bits of a unit of a member's type
abbrev pub unit_of : LayoutMember → ℕ
unit_of member = 8 * member.size

-- how many bits a member has
abbrev pub bits_with : Option ℕ → LayoutMember → ℕ
bits_with None member = 8 * member.size
bits_with (Some width) member = width

abbrev pub bits_of : LayoutMember → ℕ
bits_of member = bits_with member.width member

-- so many bits from this one on lie in one unit
abbrev pub lies_in_unit : (unit first width : ℕ) → Bool
lies_in_unit unit first width = first / unit == (first + (width - 1)) / unit

-- where a bit-field lies that may begin at this bit: there, unless it would cross a unit; without a width at the next unit
abbrev pub field_from : (unit width bit : ℕ) → ℕ
field_from unit zero bit = next_multiple unit bit
field_from unit (suc more) bit = if lies_in_unit unit bit (suc more) then bit else next_multiple unit bit

-- the next bit for a bit-field with this written alignment
abbrev pub field_start : (written bit : ℕ) → ℕ
field_start written bit = if written == 1 then bit else next_multiple (8 * written) bit

-- the first bit of a member in a structure in which this bit is the next
abbrev pub first_bit_with : Option ℕ → (packed : Bool) → LayoutMember → ℕ → ℕ
first_bit_with None packed member bit = next_multiple (8 * member_align packed member) bit
first_bit_with (Some width) packed member bit = field_from (unit_of member) width (field_start member.written bit)

abbrev pub first_bit : (packed : Bool) → LayoutMember → ℕ → ℕ
first_bit packed member bit = first_bit_with member.width packed member bit

-- the first bits of the members of a structure, from the next bit on
abbrev pub first_bits : (packed : Bool) → List LayoutMember → ℕ → List ℕ
first_bits packed [] bit = []
first_bits packed (member ∷ members) bit =
    first_bit packed member bit ∷ first_bits packed members (first_bit packed member bit + bits_of member)

-- the bit behind all members of a structure
abbrev pub bit_behind : (packed : Bool) → List LayoutMember → ℕ → ℕ
bit_behind packed [] bit = bit
bit_behind packed (member ∷ members) bit = bit_behind packed members (first_bit packed member bit + bits_of member)

-- how many bits the largest member has
abbrev pub largest_bits : List LayoutMember → ℕ
largest_bits [] = 0
largest_bits (member ∷ members) = max (bits_of member) (largest_bits members)

-- the largest alignment that members give
abbrev pub largest_align : (packed : Bool) → List LayoutMember → ℕ
largest_align packed [] = 1
largest_align packed (member ∷ members) = max (given_align packed member) (largest_align packed members)
