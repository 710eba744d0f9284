-- The sets that stand from the start, and the bits of their numbers.
use Rattle.std.proofs.Common.{◌≡◌, ℕ, zero, suc, ◌+◌, ◌-◌, ◌*◌, ◌<◌, ◌≤◌, ◌^◌, Bool, true, ◌||◌, false, List, [], ◌∷◌, ◌++◌, length, slice_get, Some, unwrap_or, nat_eq, refl, sym, ap, subst, ◌∙◌, ⊎_elim, arith}
use Rattle.std.specs.Int.{w32, leading_zeros}
use Rattle.std.specs.Int.Count.{count_leading_zeros}
use Rattle.std.specs.List.{list_any}
use Rattle.std.proofs.lemmas.Bool.{cases_lt, eqb-true, false≢true}
use Rattle.std.proofs.lemmas.Nat.{leading_length, pow-add}
use Rattle.std.proofs.Math.Pow.{pow_mono}
use Rattle.number_sets.specs.NumberSets.{Table, has, numbers_at, plain_sets, singles}
use Rattle.number_sets.specs.Branches.{bits_of}
use Rattle.number_sets.proofs.TableLemmas.{or-false}

length-singles : (count number : ℕ) → length (singles count number) ≡ count
unfolding singles
length-singles zero number = refl
length-singles (suc count) number = ap suc (length-singles count (suc number))

slice_get-singles : (count number place : ℕ) → place < count → slice_get (singles count number) place ≡ Some ((number + place) ∷ [])
unfolding singles
slice_get-singles zero number place within = absurd (omega arith)
slice_get-singles (suc count) number zero within =
    let same : number ≡ number + 0 = omega arith in
    ap (λ n. Some (n ∷ [])) same
slice_get-singles (suc count) number (suc place) within =
    let same : suc number + place ≡ number + suc place = omega arith in
    slice_get-singles count (suc number) place (omega arith) ∙ ap (λ n. Some (n ∷ [])) same

-- the empty one, and one for each number
pub length-plain : length plain_sets ≡ 1073741825
unfolding plain_sets
length-plain = ap suc (length-singles (2 ^ 30) 0)

-- the first one has none
pub numbers_at-plain : (more : Table) → numbers_at (plain_sets ++ more) 0 ≡ []
unfolding plain_sets
numbers_at-plain more = refl

-- a set of one number has that number
pub has-plain : (set n : ℕ) → 1 ≤ set → set < 1073741825 → has plain_sets set n ≡ nat_eq n (set - 1) || false
unfolding plain_sets
has-plain zero n some within = absurd (omega arith)
has-plain (suc place) n some within =
    let same : 0 + place ≡ suc place - 1 = omega arith in
    ap (λ found. list_any (nat_eq n) (unwrap_or found [])) (slice_get-singles (2 ^ 30) 0 place (omega arith)) ∙ ap (λ m. nat_eq n m || false) same

-- a number has its bits
pub bits_of-within : (n : ℕ) → n < 2 ^ 32 → n < 2 ^ bits_of n
bits_of-within n small =
    let found = leading_length 32 n small in
    let bits : found.0 ≡ 32 - count_leading_zeros 32 n = omega (arith, found.1) in
    subst (λ k. n < 2 ^ k) bits found.2

-- and no more than it needs
pub bits_of-most : (n most : ℕ) → n < 2 ^ 32 → n < 2 ^ most → bits_of n ≤ most
bits_of-most n most small within =
    let found = leading_length 32 n small in
    let bits : found.0 ≡ 32 - count_leading_zeros 32 n = omega (arith, found.1) in
    ⊎_elim
    (λ less. absurd (omega (arith, pow_mono {i = most + 1} {j = found.0} (omega (arith, less)), pow-add 2 most 1, within, found.3)))
    (λ past. omega (arith, bits, past))
    (cases_lt most found.0)

-- no number of such a set has more bits than that
pub plain_bounded : (set n : ℕ) → set < 1073741825 → has plain_sets set n ≡ true → n < 2 ^ bits_of (set - 1)
unfolding plain_sets
plain_bounded zero n within found = absurd (false≢true found)
plain_bounded (suc place) n within found =
    let same : n ≡ suc place - 1 = eqb-true n (suc place - 1) (sym (or-false (nat_eq n (suc place - 1))) ∙ sym (has-plain (suc place) n (omega arith) within) ∙ found) in
    subst (λ m. m < 2 ^ bits_of (suc place - 1)) (sym same) (bits_of-within (suc place - 1) (omega (arith, within)))

-- no number has no bits
pub bits_of-none : (set : ℕ) → set ≡ 0 → 0 ≡ bits_of (set - 1)
bits_of-none set none =
    let zero_is : set - 1 ≡ 0 = omega (arith, none) in
    omega (arith, ap bits_of zero_is, bits_of-most 0 0 (omega arith) (omega arith))
