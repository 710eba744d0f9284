-- Arrays of what is repeated.
use Rattle.std.proofs.Common.{◌≡◌, ℕ, zero, suc, ◌+◌, ◌*◌, ◌<◌, ◌≤◌, max, nat_le, Bool, true, false, Result, Ok, Err, if◌then◌else◌, refl, sym, ap, ◌∙◌, ⊎_elim, arith}
use Rattle.std.proofs.lemmas.Bool.{cases_lt, le-leb, leb-false, leb-true}
use Rattle.std.proofs.Math.Nat.{le-max_left, le-mul_of_pos_right, mul_assoc, mul-le-mul_right}
use Rattle.meaning_layout.specs.Layouts.{LayoutFault, TooLarge, most_bytes}
use Rattle.meaning_layout.specs.Sizes.{Extent, array_extent}
use Rattle.meaning_layout.specs.Repeats.{capped_count, repeated, times_more}
use Rattle.meaning_layout.specs.laws.Repeats.{ArraysRepeat, OnceIsOne}

-- a size that is no larger than it may be, by a number that tells
abbrev told_if : Bool → (size align : ℕ) → Result Extent LayoutFault
told_if test size align = if test then Ok (record { size = size; align = align }) else Err TooLarge

abbrev told_by : (told size align : ℕ) → Result Extent LayoutFault
told_by told size align = told_if (nat_le told most_bytes) size align

fits : (told size align : ℕ) → told ≤ most_bytes → told_by told size align ≡ Ok (record { size = size; align = align })
fits told size align few = ap (λ test. told_if test size align) (le-leb told most_bytes few)

over : (told size align : ℕ) → most_bytes < told → told_by told size align ≡ Err TooLarge
over told size align large = by (nat_le told most_bytes) refl
  where
    by : (test : Bool) → nat_le told most_bytes ≡ test → told_if test size align ≡ Err TooLarge
    by true e = let few = leb-true told most_bytes e in absurd (omega (arith, few, large))
    by false e = refl

both-fit : (told other size same align : ℕ) → told ≤ most_bytes → other ≤ most_bytes → size ≡ same → told_by told size align ≡ told_by other same align
both-fit told other size same align first second is =
    fits told size align first ∙ ap (λ n. Ok (record { size = n; align = align })) is ∙ sym (fits other same align second)

both-over : (told other size same align : ℕ) → most_bytes < told → most_bytes < other → told_by told size align ≡ told_by other same align
both-over told other size same align first second = over told size align first ∙ sym (over other same align second)

-- `most` and `count` of what is repeated, so many of it, and the size of one
module _ (most count length size align : ℕ) where
  abbrev all : ℕ
  all = length * count

  assoc : length * (count * size) ≡ all * size
  assoc = sym (mul_assoc length count size)

  -- the count isn't capped_count
  small : all ≤ most_bytes + 1 → most * size ≤ most_bytes
      → told_by (length * (count * size)) (length * (count * size)) align ≡ told_by (max most (capped_count all) * size) (capped_count all * size) align
  small few within =
      ⊎_elim
      (λ (large : most_bytes < all * size).
      let more = mul-le-mul_right size more_of in
      both-over (length * (count * size)) (max most (capped_count all) * size) (length * (count * size)) (capped_count all * size) align
      (omega (arith, assoc, large)) (omega (arith, large, more)))
      (λ (fit : all * size ≤ most_bytes).
      both-fit (length * (count * size)) (max most (capped_count all) * size) (length * (count * size)) (capped_count all * size) align
      (omega (arith, assoc, fit)) (largest fit) (assoc ∙ ap (λ n. n * size) (sym is_all)))
      (cases_lt most_bytes (all * size))
    where
      is_all : capped_count all ≡ all
      is_all = omega (arith, few)

      more_of : all ≤ max most (capped_count all)
      more_of = omega (arith, few)

      largest : all * size ≤ most_bytes → max most (capped_count all) * size ≤ most_bytes
      largest fit =
          ⊎_elim
          (λ (less : most < all). let is : max most (capped_count all) ≡ all = omega (arith, less, is_all) in omega (arith, ap (λ n. n * size) is, fit))
          (λ (more : all ≤ most). let is : max most (capped_count all) ≡ most = omega (arith, more, is_all) in omega (arith, ap (λ n. n * size) is, within))
          (cases_lt most all)

  -- it is
  large : (n : ℕ) → size ≡ n → most_bytes + 1 < all → most * size ≤ most_bytes
      → told_by (length * (count * size)) (length * (count * size)) align ≡ told_by (max most (capped_count all) * size) (capped_count all * size) align
  large zero none capped_is within =
      both-fit (length * (count * size)) (max most (capped_count all) * size) (length * (count * size)) (capped_count all * size) align
      (omega (arith, assoc, nothing all)) (omega (arith, nothing (max most (capped_count all)))) (assoc ∙ nothing all ∙ sym (nothing (capped_count all)))
    where
      times_0 : (n : ℕ) → n * 0 ≡ 0
      times_0 n = omega arith

      nothing : (n : ℕ) → n * size ≡ 0
      nothing n = ap (λ s. n * s) none ∙ times_0 n
  large (suc n) some capped_is within =
      let one : 1 ≤ size = omega (arith, some) in
      let whole = grown all one in
      let cap = grown (max most (capped_count all)) one in
      both-over (length * (count * size)) (max most (capped_count all) * size) (length * (count * size)) (capped_count all * size) align
      (omega (arith, assoc, whole, capped_is)) (omega (arith, cap, capped_is))
    where
      grown : (m : ℕ) → 1 ≤ size → m ≤ m * size
      grown m one = le-mul_of_pos_right m one

-- an array of what is repeated
pub arrays_repeat : ArraysRepeat
arrays_repeat length repeats (Err fault) = refl
arrays_repeat length repeats (Ok one) = by (nat_le (repeats.most * one.size) most_bytes) refl
  where
    by : (test : Bool) → nat_le (repeats.most * one.size) most_bytes ≡ test
        → array_extent length (told_if test (repeats.count * one.size) one.align) ≡ repeated (times_more length repeats) (Ok one)
    by true e =
        let within = leb-true (repeats.most * one.size) most_bytes e in
        ⊎_elim
        (λ (capped_is : most_bytes + 1 < length * repeats.count). large repeats.most repeats.count length one.size one.align one.size refl capped_is within)
        (λ (few : length * repeats.count ≤ most_bytes + 1). small repeats.most repeats.count length one.size one.align few within)
        (cases_lt (most_bytes + 1) (length * repeats.count))
    by false e =
        let more = mul-le-mul_right one.size (le-max_left repeats.most (capped_count (length * repeats.count))) in
        let past = leb-false (repeats.most * one.size) most_bytes e in
        sym (over (max repeats.most (capped_count (length * repeats.count)) * one.size) (capped_count (length * repeats.count) * one.size) one.align (omega (arith, more, past)))

once_is : (size : ℕ) → size ≡ 1 * size
once_is size = omega arith

pub once_is_one : OnceIsOne
once_is_one (Err fault) = refl
once_is_one (Ok one) =
    fits (0 * one.size) (1 * one.size) one.align (omega arith) ∙ ap (λ n. Ok (record { size = n; align = one.align })) (sym (once_is one.size))
