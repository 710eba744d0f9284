-- What types are made of for their sizes.
use Rattle.std.specs.Prelude.{◌≡◌, ℕ, ◌≤◌, ◌+◌, ◌*◌, ◌^◌, max, Bool, true, false, Result, Ok, Err}
use Rattle.vocabulary.specs.declared.int_kind.IntKind.{IntKind}
use Rattle.vocabulary.specs.declared.int_kind.IntKind.TheVariants as kinds
use Rattle.meaning_types.specs.Types.{BaseTree}
use Rattle.meaning_layout.specs.Layouts.{LayoutFault, Incomplete}
use Rattle.meaning_layout.specs.Repeats.{Repeats, repeated}
use Rattle.meaning_layout.specs.Sizes.{Extent, Told, extent_of_base, scalar, told_extent}
use Rattle.c_types.specs.declared.elements.Elements.{Elements}
use Rattle.c_types.specs.declared.elements.Innermost.{Innermost}
use Rattle.c_types.specs.declared.elements.Innermost.TheVariants as innermost
use Rattle.c_types.specs.declared.elements.Single.{Single}
use Rattle.c_types.specs.declared.elements.Single.TheVariants as singles

-- an integer of this kind
abbrev pub integer_innermost : IntKind → Innermost
integer_innermost kinds.Bool = innermost.OneByte
integer_innermost kinds.Char = innermost.OneByte
integer_innermost kinds.SChar = innermost.OneByte
integer_innermost kinds.UChar = innermost.OneByte
integer_innermost kinds.Short = innermost.TwoBytes
integer_innermost kinds.UShort = innermost.TwoBytes
integer_innermost kinds.Int = innermost.FourBytes
integer_innermost kinds.UInt = innermost.FourBytes
integer_innermost kinds.Long = innermost.EightBytes
integer_innermost kinds.ULong = innermost.EightBytes
integer_innermost kinds.LLong = innermost.EightBytes
integer_innermost kinds.ULLong = innermost.EightBytes

abbrev pub aggregate_innermost : (is_union : Bool) → Innermost
aggregate_innermost true = innermost.Union
aggregate_innermost false = innermost.Structure

-- what stands innermost, where an aggregate has this token
abbrev pub single_with : Innermost → (token : ℕ) → Single
single_with innermost.OneByte token = singles.Scalar 1
single_with innermost.TwoBytes token = singles.Scalar 2
single_with innermost.FourBytes token = singles.Scalar 4
single_with innermost.EightBytes token = singles.Scalar 8
single_with innermost.Sizeless token = singles.Sizeless
single_with innermost.Structure token = singles.Aggregate token false
single_with innermost.Union token = singles.Aggregate token true

abbrev pub single_in : Elements → Single
single_in elements = single_with elements.of elements.token

-- the most that one of the arrays has
abbrev pub most_in : Elements → ℕ
most_in elements = elements.most_high * 2 ^ 32 + elements.most_low

-- Where there are some, no array has more than all together, since none of them is empty.
abbrev pub count_with : (is_empty : Bool) → (most : ℕ) → ℕ
count_with true most = 0
count_with false most = max 1 most

abbrev pub count_in : Elements → ℕ
count_in elements = count_with elements.is_empty (most_in elements)

-- how many there are
abbrev pub repeats_in : Elements → Repeats
repeats_in elements = record { count = count_in elements; most = most_in elements }

-- one, in no array
abbrev pub once_of : Innermost → (token : ℕ) → Elements
once_of of token = record { token = token; most_low = 0; most_high = 0; is_empty = false; of = of }

-- what one of them takes
abbrev pub single_extent : Told → Single → Result Extent LayoutFault
single_extent told (singles.Scalar bytes) = Ok (scalar bytes)
single_extent told singles.Sizeless = Err Incomplete
single_extent told (singles.Aggregate number is_union) = told_extent (told number is_union)

-- what all of them take
abbrev pub elements_extent : Told → Elements → Result Extent LayoutFault
elements_extent told elements = repeated (repeats_in elements) (single_extent told (single_in elements))

-- the type is made of them, whatever was told of aggregates
pub record AreElements (base : BaseTree) (elements : Elements) : Type 0 where
  pub extent : (told : Told) → extent_of_base told base ≡ elements_extent told elements
  pub narrow : most_in elements ≤ 2 ^ 40 + 1
