-- A number is wrapped in a kind as what is left of it at 128 bits.
use Rattle.std.proofs.Common.{◌≡◌, ◌<◌, ℕ, zero, suc, ℤ, pos, negsuc, ◌≤◌, ◌-◌, ◌/◌, neg_ℤ, refl, ◌+ℤ◌, ◌-ℤ◌, ◌*ℤ◌, int_div, unsigned_abs, sym, ap, ◌∙◌, arith, FitsSigned, to_z, of_z}
use Rattle.std.specs.Int.{w128, int_div_euclid, int_wrap, int_wrapping_add, int_wrapping_sub, int_wrapping_mul, int_wrapping_div}
use Rattle.std.proofs.Math.Nat.{div-le_self}
use Rattle.std.proofs.Math.Facts.{to_z-neg}
use Rattle.std.proofs.lemmas.Int.{ints, by_lt_z, to_z-of_z, wrapping_add_is, wrapping_sub_is, wrapping_mul_is}
use Rattle.vocabulary.specs.declared.int_kind.IntKind.{IntKind}
use Rattle.vocabulary.specs.declared.int_kind.IntKind.TheVariants as kinds
use Rattle.meaning_constants.specs.Numbers.{wrapped}
use Rattle.meaning_constants.proofs.Numbers.{remainder-below, whole, apart, wrapped_is_in_range}

-- two numbers differ by a multiple of 2^128
abbrev IsFar : ℤ → ℤ → Type 0
IsFar number other = (times : ℤ) × (number ≡ other +ℤ times *ℤ pos 340282366920938463463374607431768211456)

-- numbers that do are wrapped to one in each kind
pub wrapped-far : (kind : IntKind) (number other times : ℤ) → number ≡ other +ℤ times *ℤ pos 340282366920938463463374607431768211456
    → wrapped kind number ≡ wrapped kind other
wrapped-far kinds.Bool number other times far =
    let (more, is) = apart (pos 0) (pos 1) number (omega (arith, ints)) in
    let (others, is_other) = apart (pos 0) (pos 1) other (omega (arith, ints)) in
    let range = wrapped_is_in_range kinds.Bool number in
    let range_other = wrapped_is_in_range kinds.Bool other in
    omega (arith, ints, far, is, is_other, range.0, range.1, range_other.0, range_other.1)
wrapped-far kinds.Char number other times far =
    let (more, is) = apart (negsuc 127) (pos 127) number (omega (arith, ints)) in
    let (others, is_other) = apart (negsuc 127) (pos 127) other (omega (arith, ints)) in
    let range = wrapped_is_in_range kinds.Char number in
    let range_other = wrapped_is_in_range kinds.Char other in
    omega (arith, ints, far, is, is_other, range.0, range.1, range_other.0, range_other.1)
wrapped-far kinds.SChar number other times far =
    let (more, is) = apart (negsuc 127) (pos 127) number (omega (arith, ints)) in
    let (others, is_other) = apart (negsuc 127) (pos 127) other (omega (arith, ints)) in
    let range = wrapped_is_in_range kinds.SChar number in
    let range_other = wrapped_is_in_range kinds.SChar other in
    omega (arith, ints, far, is, is_other, range.0, range.1, range_other.0, range_other.1)
wrapped-far kinds.UChar number other times far =
    let (more, is) = apart (pos 0) (pos 255) number (omega (arith, ints)) in
    let (others, is_other) = apart (pos 0) (pos 255) other (omega (arith, ints)) in
    let range = wrapped_is_in_range kinds.UChar number in
    let range_other = wrapped_is_in_range kinds.UChar other in
    omega (arith, ints, far, is, is_other, range.0, range.1, range_other.0, range_other.1)
wrapped-far kinds.Short number other times far =
    let (more, is) = apart (negsuc 32767) (pos 32767) number (omega (arith, ints)) in
    let (others, is_other) = apart (negsuc 32767) (pos 32767) other (omega (arith, ints)) in
    let range = wrapped_is_in_range kinds.Short number in
    let range_other = wrapped_is_in_range kinds.Short other in
    omega (arith, ints, far, is, is_other, range.0, range.1, range_other.0, range_other.1)
wrapped-far kinds.UShort number other times far =
    let (more, is) = apart (pos 0) (pos 65535) number (omega (arith, ints)) in
    let (others, is_other) = apart (pos 0) (pos 65535) other (omega (arith, ints)) in
    let range = wrapped_is_in_range kinds.UShort number in
    let range_other = wrapped_is_in_range kinds.UShort other in
    omega (arith, ints, far, is, is_other, range.0, range.1, range_other.0, range_other.1)
wrapped-far kinds.Int number other times far =
    let (more, is) = apart (negsuc 2147483647) (pos 2147483647) number (omega (arith, ints)) in
    let (others, is_other) = apart (negsuc 2147483647) (pos 2147483647) other (omega (arith, ints)) in
    let range = wrapped_is_in_range kinds.Int number in
    let range_other = wrapped_is_in_range kinds.Int other in
    omega (arith, ints, far, is, is_other, range.0, range.1, range_other.0, range_other.1)
wrapped-far kinds.UInt number other times far =
    let (more, is) = apart (pos 0) (pos 4294967295) number (omega (arith, ints)) in
    let (others, is_other) = apart (pos 0) (pos 4294967295) other (omega (arith, ints)) in
    let range = wrapped_is_in_range kinds.UInt number in
    let range_other = wrapped_is_in_range kinds.UInt other in
    omega (arith, ints, far, is, is_other, range.0, range.1, range_other.0, range_other.1)
wrapped-far kinds.Long number other times far =
    let (more, is) = apart (negsuc 9223372036854775807) (pos 9223372036854775807) number (omega (arith, ints)) in
    let (others, is_other) = apart (negsuc 9223372036854775807) (pos 9223372036854775807) other (omega (arith, ints)) in
    let range = wrapped_is_in_range kinds.Long number in
    let range_other = wrapped_is_in_range kinds.Long other in
    omega (arith, ints, far, is, is_other, range.0, range.1, range_other.0, range_other.1)
wrapped-far kinds.ULong number other times far =
    let (more, is) = apart (pos 0) (pos 18446744073709551615) number (omega (arith, ints)) in
    let (others, is_other) = apart (pos 0) (pos 18446744073709551615) other (omega (arith, ints)) in
    let range = wrapped_is_in_range kinds.ULong number in
    let range_other = wrapped_is_in_range kinds.ULong other in
    omega (arith, ints, far, is, is_other, range.0, range.1, range_other.0, range_other.1)
wrapped-far kinds.LLong number other times far =
    let (more, is) = apart (negsuc 9223372036854775807) (pos 9223372036854775807) number (omega (arith, ints)) in
    let (others, is_other) = apart (negsuc 9223372036854775807) (pos 9223372036854775807) other (omega (arith, ints)) in
    let range = wrapped_is_in_range kinds.LLong number in
    let range_other = wrapped_is_in_range kinds.LLong other in
    omega (arith, ints, far, is, is_other, range.0, range.1, range_other.0, range_other.1)
wrapped-far kinds.ULLong number other times far =
    let (more, is) = apart (pos 0) (pos 18446744073709551615) number (omega (arith, ints)) in
    let (others, is_other) = apart (pos 0) (pos 18446744073709551615) other (omega (arith, ints)) in
    let range = wrapped_is_in_range kinds.ULLong number in
    let range_other = wrapped_is_in_range kinds.ULLong other in
    omega (arith, ints, far, is, is_other, range.0, range.1, range_other.0, range_other.1)

-- 128 bits as a number with a sign differ so from the number without
half-far : (rest : ℕ) → rest < 340282366920938463463374607431768211456 → IsFar (pos rest) (to_z w128 rest)
half-far rest below =
    by_lt_z (pos rest) (pos 170141183460469231731687303715884105728) (λ low. (pos 0, omega (arith, ints, low)))
    (λ high.
    let least : 170141183460469231731687303715884105728 ≤ rest = omega (arith, ints, high) in
    let complement : ℕ = 340282366920938463463374607431768211455 - rest in
    let same : rest ≡ 340282366920938463463374607431768211456 - suc complement = omega (arith, below) in
    let is : to_z w128 rest ≡ negsuc complement = ap (to_z w128) same ∙ to_z-neg w128 complement (omega (arith, least, below)) in
    (pos 1, omega (arith, ints, is, least, below)))

-- what is left at 128 bits differs so
left-far : (number : ℤ) → IsFar number (int_wrap w128 number)
unfolding int_wrap
left-far number =
    let (rest, is_rest, below) = remainder-below number 340282366920938463463374607431768211456 (omega arith) in
    let (carry, is_carry) = half-far rest below in
    let all = whole number 340282366920938463463374607431768211456 (omega arith) in
    let is : number ≡ to_z w128 rest +ℤ (int_div_euclid number (pos 340282366920938463463374607431768211456) +ℤ carry) *ℤ pos 340282366920938463463374607431768211456 =
    omega (arith, ints, all, is_rest, is_carry) in
    (int_div_euclid number (pos 340282366920938463463374607431768211456) +ℤ carry, rw is_rest is)

-- so a number is wrapped as what is left of it
pub wrapped-int_wrap : (kind : IntKind) (number : ℤ) → wrapped kind (int_wrap w128 number) ≡ wrapped kind number
wrapped-int_wrap kind number = let (times, is) = left-far number in sym (wrapped-far kind number (int_wrap w128 number) times is)

pub wrapped-sum : (kind : IntKind) (left right : ℤ) → FitsSigned w128 left → FitsSigned w128 right
    → wrapped kind (int_wrapping_add w128 left right) ≡ wrapped kind (left +ℤ right)
wrapped-sum kind left right fits fit = ap (wrapped kind) (wrapping_add_is w128 left right fits fit) ∙ wrapped-int_wrap kind (left +ℤ right)

pub wrapped-difference : (kind : IntKind) (left right : ℤ) → FitsSigned w128 left → FitsSigned w128 right
    → wrapped kind (int_wrapping_sub w128 left right) ≡ wrapped kind (left -ℤ right)
wrapped-difference kind left right fits fit = ap (wrapped kind) (wrapping_sub_is w128 left right fits fit) ∙ wrapped-int_wrap kind (left -ℤ right)

pub wrapped-product : (kind : IntKind) (left right : ℤ) → FitsSigned w128 left → FitsSigned w128 right
    → wrapped kind (int_wrapping_mul w128 left right) ≡ wrapped kind (left *ℤ right)
wrapped-product kind left right fits fit = ap (wrapped kind) (wrapping_mul_is w128 left right fits fit) ∙ wrapped-int_wrap kind (left *ℤ right)

-- A quotient is at most as great as the dividend, so that of the least number of 128 bits and -1 alone has no room there.
abs-of_other_sign : (number : ℕ) → unsigned_abs (neg_ℤ (pos number)) ≡ number
abs-of_other_sign zero = refl
abs-of_other_sign (suc number) = refl

quotient-small : (left right : ℤ) → FitsSigned w128 left → unsigned_abs (int_div left right) ≤ 170141183460469231731687303715884105728
quotient-small (pos a) (pos b) fits = let small : a < 170141183460469231731687303715884105728 = fits.sfits in omega (arith, small, div-le_self a b)
quotient-small (pos a) (negsuc b) fits =
    let small : a < 170141183460469231731687303715884105728 = fits.sfits in rw (abs-of_other_sign (a / suc b)) (omega (arith, small, div-le_self a (suc b)))
quotient-small (negsuc a) (pos b) fits =
    let small : a < 170141183460469231731687303715884105728 = fits.sfits in rw (abs-of_other_sign (suc a / b)) (omega (arith, small, div-le_self (suc a) b))
quotient-small (negsuc a) (negsuc b) fits =
    let small : a < 170141183460469231731687303715884105728 = fits.sfits in omega (arith, small, div-le_self (suc a) (suc b))

kept-far : (number : ℤ) → unsigned_abs number ≤ 170141183460469231731687303715884105728 → IsFar number (to_z w128 (of_z w128 number))
kept-far (pos n) small = half-far n (omega (arith, small))
kept-far (negsuc n) small =
    let fits : FitsSigned w128 (negsuc n) = record { sfits = omega (arith, small) } in
    (pos 0, omega (arith, ints, to_z-of_z w128 (negsuc n) fits))

pub wrapped-quotient : (kind : IntKind) (left right : ℤ) → FitsSigned w128 left → wrapped kind (int_wrapping_div w128 left right) ≡ wrapped kind (int_div left right)
wrapped-quotient kind left right fits =
    let (times, is) = kept-far (int_div left right) (quotient-small left right fits) in sym (wrapped-far kind (int_div left right) (int_wrapping_div w128 left right) times is)
