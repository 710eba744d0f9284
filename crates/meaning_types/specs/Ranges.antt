-- Which numbers the integer types hold (C11 5.2.4.2.1, 6.2.6.2): our choice of LP64, with a signed char.
use Rattle.std.specs.Prelude.{ℕ, ℤ, pos, negsuc}
use Rattle.vocabulary.specs.declared.int_kind.IntKind.{IntKind}
use Rattle.vocabulary.specs.declared.int_kind.IntKind.TheVariants.{Bool, Char, SChar, UChar, Short, UShort, Int, UInt, Long, ULong, LLong, ULLong}

-- how many bits tell a number from others, a sign among them (6.2.6.2 p6), and the numbers at both ends
pub record RangeRow : Type 0 where
  pub width : ℕ
  pub least : ℤ
  pub greatest : ℤ

-- a row of the table
abbrev pub spanning : (width : ℕ) → (least greatest : ℤ) → RangeRow
spanning width least greatest = record { width = width; least = least; greatest = greatest }

-- the row of a kind
abbrev pub range_of : IntKind → RangeRow
range_of Bool = spanning 1 (pos 0) (pos 1)
range_of Char = spanning 8 (negsuc 127) (pos 127)
range_of SChar = spanning 8 (negsuc 127) (pos 127)
range_of UChar = spanning 8 (pos 0) (pos 255)
range_of Short = spanning 16 (negsuc 32767) (pos 32767)
range_of UShort = spanning 16 (pos 0) (pos 65535)
range_of Int = spanning 32 (negsuc 2147483647) (pos 2147483647)
range_of UInt = spanning 32 (pos 0) (pos 4294967295)
range_of Long = spanning 64 (negsuc 9223372036854775807) (pos 9223372036854775807)
range_of ULong = spanning 64 (pos 0) (pos 18446744073709551615)
range_of LLong = spanning 64 (negsuc 9223372036854775807) (pos 9223372036854775807)
range_of ULLong = spanning 64 (pos 0) (pos 18446744073709551615)

-- the width of a kind in bits
abbrev pub width : IntKind → ℕ
width kind = (range_of kind).width

-- the least number that a kind holds
abbrev pub least : IntKind → ℤ
least kind = (range_of kind).least

-- the greatest number that a kind holds
abbrev pub greatest : IntKind → ℤ
greatest kind = (range_of kind).greatest
