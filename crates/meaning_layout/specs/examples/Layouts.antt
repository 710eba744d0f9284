-- Worked examples: bodies, with their sizes, alignments and first bits.
use Rattle.std.specs.Prelude.{◌≡◌, ℕ, ◌*◌, true, false, Some, None, Result, Ok, Err, List, [], ◌∷◌}
use Rattle.meaning_layout.specs.Bodies.{LayoutMember, LayoutBody}
use Rattle.meaning_layout.specs.Layouts.{Layout, LayoutFault, TooLarge, layout_of}

-- Members

-- a member with a type of so many bytes, which is its alignment
abbrev pub plain : ℕ → LayoutMember
plain size = record { size = size; align = size; width = None; named = true; written = 1 }

abbrev pub a_char : LayoutMember
a_char = plain 1

abbrev pub a_short : LayoutMember
a_short = plain 2

abbrev pub an_int : LayoutMember
an_int = plain 4

-- a long, or a pointer
abbrev pub a_long : LayoutMember
a_long = plain 8

-- an array of so many
abbrev pub times : ℕ → LayoutMember → LayoutMember
times count member = record member { size = count * member.size }

-- a bit-field of the member's type
abbrev pub field : LayoutMember → ℕ → LayoutMember
field member width = record member { width = Some width }

-- the same without a name
abbrev pub unnamed : LayoutMember → ℕ → LayoutMember
unnamed member width = record member { width = Some width; named = false }

-- with a written alignment
abbrev pub aligned : LayoutMember → ℕ → LayoutMember
aligned member written = record member { written = written }

-- Bodies

abbrev pub struct_of : List LayoutMember → LayoutBody
struct_of members = record { members = members; is_union = false; packed = false; written = 1 }

abbrev pub union_of : List LayoutMember → LayoutBody
union_of members = record { members = members; is_union = true; packed = false; written = 1 }

abbrev pub packed : LayoutBody → LayoutBody
packed body = record body { packed = true }

abbrev pub body_aligned : LayoutBody → ℕ → LayoutBody
body_aligned body written = record body { written = written }

-- a layout with this size, alignment and these first bits
abbrev pub layout_with : (size align : ℕ) → List ℕ → Result Layout LayoutFault
layout_with size align first_bits = Ok (record { first_bits = first_bits; size = size; align = align })

pub record PlainExamples : Type 0 where
  pub empty : layout_of (struct_of []) ≡ layout_with 0 1 []
  pub arrays : layout_of (struct_of (times 3 a_char ∷ a_short ∷ [])) ≡ layout_with 6 2 (0 ∷ 32 ∷ [])
  pub three_sizes : layout_of (struct_of (a_short ∷ an_int ∷ a_long ∷ [])) ≡ layout_with 16 8 (0 ∷ 32 ∷ 64 ∷ [])
  pub attributes_before_the_tag : layout_of (struct_of (a_char ∷ an_int ∷ [])) ≡ layout_with 8 4 (0 ∷ 32 ∷ [])
  pub without_a_length : layout_of (struct_of (an_int ∷ times 0 a_long ∷ [])) ≡ layout_with 8 8 (0 ∷ 64 ∷ [])
  pub unions : layout_of (union_of (a_char ∷ a_long ∷ field an_int 5 ∷ [])) ≡ layout_with 8 8 (0 ∷ 0 ∷ 0 ∷ [])
  pub unnamed_in_a_union : layout_of (union_of (unnamed an_int 5 ∷ a_char ∷ [])) ≡ layout_with 1 1 (0 ∷ 0 ∷ [])

pub record FieldExamples : Type 0 where
  pub next_unit : layout_of (struct_of (a_char ∷ field an_int 3 ∷ field an_int 30 ∷ a_short ∷ [])) ≡ layout_with 12 4 (0 ∷ 8 ∷ 32 ∷ 64 ∷ [])
  pub width_0 : layout_of (struct_of (field an_int 3 ∷ unnamed an_int 0 ∷ field an_int 3 ∷ [])) ≡ layout_with 8 4 (0 ∷ 32 ∷ 32 ∷ [])
  pub width_0_before_a_char : layout_of (struct_of (a_char ∷ unnamed an_int 0 ∷ a_char ∷ [])) ≡ layout_with 5 1 (0 ∷ 32 ∷ 32 ∷ [])
  pub unnamed_raises_nothing : layout_of (struct_of (a_char ∷ unnamed an_int 5 ∷ a_char ∷ [])) ≡ layout_with 3 1 (0 ∷ 8 ∷ 16 ∷ [])
  pub long_unit : layout_of (struct_of (a_char ∷ field a_long 40 ∷ field an_int 30 ∷ [])) ≡ layout_with 16 8 (0 ∷ 8 ∷ 64 ∷ [])
  pub char_unit : layout_of (struct_of (field a_char 4 ∷ field a_char 5 ∷ [])) ≡ layout_with 2 1 (0 ∷ 8 ∷ [])
  pub behind_a_field : layout_of (struct_of (field an_int 31 ∷ field an_int 2 ∷ a_char ∷ [])) ≡ layout_with 8 4 (0 ∷ 32 ∷ 40 ∷ [])
  pub units_of_two_types : layout_of (struct_of (field a_short 9 ∷ field a_short 9 ∷ field an_int 1 ∷ [])) ≡ layout_with 4 4 (0 ∷ 16 ∷ 25 ∷ [])
  pub bools : layout_of (struct_of (field a_char 1 ∷ field a_char 1 ∷ an_int ∷ [])) ≡ layout_with 8 4 (0 ∷ 1 ∷ 32 ∷ [])
  pub char_in_the_unit : layout_of (struct_of (field a_long 1 ∷ a_char ∷ [])) ≡ layout_with 8 8 (0 ∷ 8 ∷ [])

pub record WrittenExamples : Type 0 where
  pub packed_int : layout_of (packed (struct_of (a_char ∷ an_int ∷ []))) ≡ layout_with 5 1 (0 ∷ 8 ∷ [])
  pub packed_and_aligned : layout_of (body_aligned (packed (struct_of (a_char ∷ an_int ∷ []))) 4) ≡ layout_with 8 4 (0 ∷ 8 ∷ [])
  pub aligned_in_packed : layout_of (packed (struct_of (a_char ∷ aligned an_int 2 ∷ []))) ≡ layout_with 6 2 (0 ∷ 16 ∷ [])
  pub packed_fields : layout_of (packed (struct_of (a_char ∷ field an_int 12 ∷ field an_int 14 ∷ field an_int 10 ∷ []))) ≡ layout_with 7 1 (0 ∷ 8 ∷ 32 ∷ 46 ∷ [])
  pub aligned_body : layout_of (body_aligned (struct_of (a_char ∷ [])) 16) ≡ layout_with 16 16 (0 ∷ [])
  pub aligned_member : layout_of (struct_of (a_char ∷ aligned a_char 8 ∷ [])) ≡ layout_with 16 8 (0 ∷ 64 ∷ [])
  pub aligned_field : layout_of (struct_of (a_char ∷ aligned (field an_int 3) 8 ∷ [])) ≡ layout_with 16 8 (0 ∷ 64 ∷ [])
  pub one_of_two : layout_of (struct_of (aligned a_char 4 ∷ a_char ∷ [])) ≡ layout_with 4 4 (0 ∷ 8 ∷ [])
  pub both : layout_of (struct_of (aligned a_char 4 ∷ aligned a_char 4 ∷ [])) ≡ layout_with 8 4 (0 ∷ 32 ∷ [])

pub record SizeExamples : Type 0 where
  pub largest : layout_of (struct_of (times 1099511627776 a_char ∷ [])) ≡ layout_with 1099511627776 1 (0 ∷ [])
  pub one_more : layout_of (struct_of (times 1099511627776 a_char ∷ a_char ∷ [])) ≡ Err TooLarge
  pub padding_counts : layout_of (struct_of (times 1099511627775 a_char ∷ aligned (times 0 a_char) 16 ∷ [])) ≡ layout_with 1099511627776 16 (0 ∷ 8796093022208 ∷ [])
  pub padding_is_too_large : layout_of (body_aligned (struct_of (times 1099511627776 a_char ∷ times 0 a_long ∷ field a_char 1 ∷ [])) 8) ≡ Err TooLarge
  pub unions : layout_of (union_of (times 1099511627777 a_char ∷ a_char ∷ [])) ≡ Err TooLarge
  pub empty_ones : layout_of (struct_of (times 1099511627776 (record a_char { size = 0 }) ∷ [])) ≡ layout_with 0 1 (0 ∷ [])
