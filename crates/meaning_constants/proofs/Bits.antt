-- A number of a kind is told by its 64 bits.
use Rattle.std.proofs.Common.{◌≡◌, ℤ, pos, negsuc, ◌+ℤ◌, ◌*ℤ◌, unsigned_abs, sym, ap, ◌∙◌, arith}
use Rattle.std.specs.Int.{int_div_euclid}
use Rattle.std.proofs.lemmas.Int.{ints}
use Rattle.vocabulary.specs.declared.int_kind.IntKind.TheVariants as kinds
use Rattle.meaning_constants.specs.Bits.{bits_of_number}
use Rattle.meaning_constants.specs.Numbers.{IsInRange, wrapped}
use Rattle.meaning_constants.specs.laws.Nodes.{BitsTellNumbers}
use Rattle.meaning_constants.proofs.Numbers.{remainder-below, whole, apart, wrapped_is_in_range}

-- the bits differ from the number by a multiple of 2^64
bits-apart : (number : ℤ) → (times : ℤ) × (number ≡ times *ℤ pos 18446744073709551616 +ℤ pos (bits_of_number number))
bits-apart number =
    let (rest, is_rest, below) = remainder-below number 18446744073709551616 (omega arith) in (
      int_div_euclid number (pos 18446744073709551616),
      sym (whole number 18446744073709551616 (omega arith)) ∙ ap (λ r. int_div_euclid number (pos 18446744073709551616) *ℤ pos 18446744073709551616 +ℤ r) (is_rest ∙ ap (λ r. pos (unsigned_abs r)) (sym is_rest)),
    )

-- Of one kind, numbers that differ by a multiple of 2^64 are one.

as_int : (number : ℤ) → IsInRange kinds.Int number → wrapped kinds.Int (pos (bits_of_number number)) ≡ number
as_int number within =
    let (times, is) = bits-apart number in
    let (more, wraps) = apart (negsuc 2147483647) (pos 2147483647) (pos (bits_of_number number)) (omega (arith, ints)) in
    let range = wrapped_is_in_range kinds.Int (pos (bits_of_number number)) in
    omega (arith, ints, is, wraps, range.0, range.1, within.0, within.1)

as_unsigned : (number : ℤ) → IsInRange kinds.UInt number → wrapped kinds.UInt (pos (bits_of_number number)) ≡ number
as_unsigned number within =
    let (times, is) = bits-apart number in
    let (more, wraps) = apart (pos 0) (pos 4294967295) (pos (bits_of_number number)) (omega (arith, ints)) in
    let range = wrapped_is_in_range kinds.UInt (pos (bits_of_number number)) in
    omega (arith, ints, is, wraps, range.0, range.1, within.0, within.1)

as_long : (number : ℤ) → IsInRange kinds.Long number → wrapped kinds.Long (pos (bits_of_number number)) ≡ number
as_long number within =
    let (times, is) = bits-apart number in
    let (more, wraps) = apart (negsuc 9223372036854775807) (pos 9223372036854775807) (pos (bits_of_number number)) (omega (arith, ints)) in
    let range = wrapped_is_in_range kinds.Long (pos (bits_of_number number)) in
    omega (arith, ints, is, wraps, range.0, range.1, within.0, within.1)

as_unsigned_long : (number : ℤ) → IsInRange kinds.ULong number → wrapped kinds.ULong (pos (bits_of_number number)) ≡ number
as_unsigned_long number within =
    let (times, is) = bits-apart number in
    let (more, wraps) = apart (pos 0) (pos 18446744073709551615) (pos (bits_of_number number)) (omega (arith, ints)) in
    let range = wrapped_is_in_range kinds.ULong (pos (bits_of_number number)) in
    omega (arith, ints, is, wraps, range.0, range.1, within.0, within.1)

pub bits_tell_numbers : BitsTellNumbers
bits_tell_numbers kinds.UInt = as_unsigned
bits_tell_numbers kinds.Long = as_long
bits_tell_numbers kinds.ULong = as_unsigned_long
bits_tell_numbers kinds.LLong = as_long
bits_tell_numbers kinds.ULLong = as_unsigned_long
bits_tell_numbers kind = as_int
