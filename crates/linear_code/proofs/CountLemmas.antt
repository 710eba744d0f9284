-- A number that is kept as its remainder by 2^64 is a long as two's complement has it.
use Rattle.std.proofs.Common.{◌≡◌, ℕ, suc, ℤ, ◌<◌, ◌≤◌, ◌-◌, ◌^◌, ◌⊎◌, inl, inr, ◌+ℤ◌, ◌*ℤ◌, pos, negsuc, to_z, ap, ◌∙◌, arith}
use Rattle.std.specs.Int.{w64}
use Rattle.std.proofs.Math.Facts.{to_z-neg}
use Rattle.std.proofs.lemmas.Bool.{cases_lt}
use Rattle.std.proofs.lemmas.Int.{ints, to_z_pos}
use Rattle.vocabulary.specs.declared.int_kind.IntKind.TheVariants as kinds
use Rattle.meaning_constants.specs.Numbers.{wrapped}
use Rattle.meaning_constants.proofs.Numbers.{apart, wrapped_is_in_range}

pub long-of : (number : ℕ) → number < 2 ^ 64 → to_z w64 number ≡ wrapped kinds.Long (pos number)
long-of number small = by (cases_lt number (2 ^ 63))
  where
    times : (times : ℤ) × (pos number ≡ wrapped kinds.Long (pos number) +ℤ times *ℤ pos 18446744073709551616)
    times = apart (negsuc 9223372036854775807) (pos 9223372036854775807) (pos number) (omega (arith, ints))

    by : (number < 2 ^ 63) ⊎ (2 ^ 63 ≤ number) → to_z w64 number ≡ wrapped kinds.Long (pos number)
    by (inl below) =
        let range = wrapped_is_in_range kinds.Long (pos number) in
        to_z_pos w64 number below ∙ omega (arith, ints, times.1, range.0, range.1, below)
    by (inr past) =
        let range = wrapped_is_in_range kinds.Long (pos number) in
        let complement = 2 ^ 64 - suc number in
        ap (to_z w64) (omega (arith, small, past)) ∙ to_z-neg w64 complement (omega (arith, past, small))
        ∙ omega (arith, ints, times.1, range.0, range.1, past, small)
