-- What integer types become before an operator takes them (C11 6.3.1): kinds alone.
use Rattle.std.specs.Prelude.{ℕ, Bool, true, false, nat_le, nat_lt, if◌then◌else◌}
use Rattle.vocabulary.specs.declared.int_kind.IntKind.{IntKind}
use Rattle.vocabulary.specs.declared.int_kind.IntKind.TheVariants.{Bool as BoolKind, Char, SChar, UChar, Short, UShort, Int, UInt, Long, ULong, LLong, ULLong}
use Rattle.meaning_types.specs.Equality.{are_equal_bools}
use Rattle.meaning_types.specs.Ranges.{width}

-- the rank of a kind (6.3.1.1 p1)
abbrev pub conversion_rank : IntKind → ℕ
conversion_rank BoolKind = 0
conversion_rank Char = 1
conversion_rank SChar = 1
conversion_rank UChar = 1
conversion_rank Short = 2
conversion_rank UShort = 2
conversion_rank Int = 3
conversion_rank UInt = 3
conversion_rank Long = 4
conversion_rank ULong = 4
conversion_rank LLong = 5
conversion_rank ULLong = 5

-- it holds numbers below 0; char does (6.2.5 p15: our choice)
abbrev pub is_signed : IntKind → Bool
is_signed BoolKind = false
is_signed Char = true
is_signed SChar = true
is_signed UChar = false
is_signed Short = true
is_signed UShort = false
is_signed Int = true
is_signed UInt = false
is_signed Long = true
is_signed ULong = false
is_signed LLong = true
is_signed ULLong = false

-- the unsigned kind that goes with a kind (6.2.5 p6)
abbrev pub unsigned_of : IntKind → IntKind
unsigned_of Char = UChar
unsigned_of SChar = UChar
unsigned_of Short = UShort
unsigned_of Int = UInt
unsigned_of Long = ULong
unsigned_of LLong = ULLong
unsigned_of kind = kind

-- the integer promotion: a kind of lower rank than int becomes int, which holds all of its numbers (6.3.1.1 p2)
abbrev pub promoted : IntKind → IntKind
promoted BoolKind = Int
promoted Char = Int
promoted SChar = Int
promoted UChar = Int
promoted Short = Int
promoted UShort = Int
promoted kind = kind

-- of a signed and an unsigned kind: the unsigned one, unless its rank is lower; else the signed one, if it holds all
-- numbers of the unsigned one; else the unsigned kind that goes with the signed one
abbrev pub common_kind_of_signs : (signed unsigned : IntKind) → IntKind
common_kind_of_signs signed unsigned =
    if nat_le (conversion_rank signed) (conversion_rank unsigned) then unsigned
    else (if nat_lt (width unsigned) (width signed) then signed
    else unsigned_of signed)

-- the kind of higher rank
abbrev pub higher_kind : IntKind → IntKind → IntKind
higher_kind kind other = if nat_le (conversion_rank other) (conversion_rank kind) then kind else other

-- the common kind of two promoted ones: of two with one sign that of higher rank
abbrev pub common_kind : IntKind → IntKind → IntKind
common_kind kind other =
    if are_equal_bools (is_signed kind) (is_signed other) then higher_kind kind other
    else (if is_signed kind then common_kind_of_signs kind other
    else common_kind_of_signs other kind)

-- the usual arithmetic conversions (6.3.1.8): both are promoted, and become one kind
abbrev pub usual : IntKind → IntKind → IntKind
usual kind other = common_kind (promoted kind) (promoted other)
