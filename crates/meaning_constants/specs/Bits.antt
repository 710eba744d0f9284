-- Numbers as 64 bits, as constants are kept.
use Rattle.std.specs.Prelude.{ℕ, ◌^◌, ℤ, pos, unsigned_abs}
use Rattle.std.specs.Int.{int_rem_euclid}
use Rattle.vocabulary.specs.declared.int_kind.IntKind.{IntKind}
use Rattle.meaning_types.specs.Conversions.{promoted}
use Rattle.meaning_constants.specs.Numbers.{wrapped}

-- the number modulo 2^64
abbrev pub bits_of_number : ℤ → ℕ
bits_of_number number = unsigned_abs (int_rem_euclid number (pos (2 ^ 64)))

-- The number of a constant of this kind that has these bits: one of the promoted kind, since a fouled one has the number of
-- that.
abbrev pub number_of_bits : IntKind → (bits : ℕ) → ℤ
number_of_bits kind bits = wrapped (promoted kind) (pos bits)
