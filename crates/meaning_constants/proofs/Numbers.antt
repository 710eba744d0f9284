-- A converted number is one of its kind, and stays as it is where the kind has it.
use Rattle.std.proofs.Common.{◌≡◌, ◌≢◌, if◌then◌else◌, Bool, true, false, ℕ, zero, suc, ◌<◌, ◌%◌, ◌/◌, ℤ, pos, negsuc, ◌+ℤ◌, ◌-ℤ◌, ◌*ℤ◌, ◌≤ℤ◌, refl, ap, arith}
use Rattle.std.specs.Int.{int_rem_euclid, int_div_euclid}
use Rattle.std.proofs.Math.Nat.{mod-lt, mod-eq_of_lt, suc-mul, mod-eq-sub-div-mul, div-mul-le_self}
use Rattle.std.proofs.lemmas.Int.{ints}
use Rattle.std.specs.Int.Signed.{le_z_yes}
use Rattle.std.specs.Ordering.{int_eq}
use Rattle.vocabulary.specs.declared.int_kind.IntKind.{IntKind}
use Rattle.vocabulary.specs.declared.int_kind.IntKind.TheVariants as kinds
use Rattle.meaning_types.specs.Ranges.{least, greatest}
use Rattle.meaning_constants.specs.Numbers.{IsInRange, number_count, wrapped, truth_of, converted}

-- Remainders

-- a number that isn't negative is a natural one
natural : (number : ℤ) → pos 0 ≤ℤ number → (m : ℕ) × (number ≡ pos m)
natural (pos m) h = (m, refl)
natural (negsuc m) h = absurd h.le

-- a remainder is below the divisor
pub remainder-below : (number : ℤ) (count : ℕ) → 0 < count → (rest : ℕ) × (int_rem_euclid number (pos count) ≡ pos rest) × (rest < count)
remainder-below (pos m) count some = (m % count, refl, mod-lt m some)
remainder-below (negsuc m) count some = (_, refl, omega (arith, mod-lt m some))

-- a number is its quotient's multiple of the divisor, and the remainder
pub whole : (number : ℤ) (count : ℕ) → 0 < count → int_div_euclid number (pos count) *ℤ pos count +ℤ int_rem_euclid number (pos count) ≡ number
whole (pos m) count some = ap pos (omega (arith, mod-eq-sub-div-mul m count, div-mul-le_self m count))
whole (negsuc m) count some =
    omega (arith, ints, suc-mul (m / count) count, mod-eq-sub-div-mul m count, div-mul-le_self m count, mod-lt m some)

-- Between two bounds

-- the number between the bounds to which a number is wrapped
abbrev wrapped_between : ℤ → ℤ → ℤ → ℤ
wrapped_between low high number = low +ℤ int_rem_euclid (number -ℤ low) ((high -ℤ low) +ℤ pos 1)

-- it is between them
between : (low high number : ℤ) → low ≤ℤ high → (low ≤ℤ wrapped_between low high number) × (wrapped_between low high number ≤ℤ high)
between low high number order =
    let (count, is_count) = natural ((high -ℤ low) +ℤ pos 1) (omega (arith, ints)) in
    let (rest, is_rest, below) = remainder-below (number -ℤ low) count (omega (arith, ints)) in
    rw (is_count, is_rest) (omega (arith, ints), omega (arith, ints))

-- a number between the bounds stays
stays : (low high number : ℤ) → low ≤ℤ number → number ≤ℤ high → wrapped_between low high number ≡ number
stays low high number above below =
    let (count, is_count) = natural ((high -ℤ low) +ℤ pos 1) (omega (arith, ints)) in
    let (m, is_m) = natural (number -ℤ low) (omega (arith, ints)) in
    let same : m % count ≡ m = mod-eq_of_lt (omega (arith, ints)) in
    rw (is_count, is_m, same) (omega (arith, ints))

-- and a number differs from the one to which it is wrapped by a multiple of how many there are
apart-by : (low number count : ℤ) (n : ℕ) → 0 < n → count ≡ pos n → (times : ℤ) × (number ≡ (low +ℤ int_rem_euclid (number -ℤ low) count) +ℤ times *ℤ count)
apart-by low number count n some is_count = rw is_count
    (int_div_euclid (number -ℤ low) (pos n), omega (arith, ints, whole (number -ℤ low) n some))

pub apart : (low high number : ℤ) → low ≤ℤ high → (times : ℤ) × (number ≡ wrapped_between low high number +ℤ times *ℤ ((high -ℤ low) +ℤ pos 1))
apart low high number order =
    let (count, is_count) = natural ((high -ℤ low) +ℤ pos 1) (omega (arith, ints)) in
    apart-by low number ((high -ℤ low) +ℤ pos 1) count (omega (arith, ints)) is_count

-- Kinds

-- two numbers differ by a multiple of how many numbers the kind has
abbrev IsApart : IntKind → ℤ → ℤ → Type 0
IsApart kind number other = (times : ℤ) × (number ≡ other +ℤ times *ℤ number_count kind)

-- zero is a number of each kind
pub zero-in_range : (kind : IntKind) → IsInRange kind (pos 0)
zero-in_range kinds.Bool = (le_z_yes tt, le_z_yes tt)
zero-in_range kind = (le_z_yes tt, le_z_yes tt)

-- so no kind has its least number above its greatest
pub least-below : (kind : IntKind) → least kind ≤ℤ greatest kind
least-below kind = let (low, high) = zero-in_range kind in omega (arith, ints, low, high)

-- numbers are wrapped in each kind but _Bool
by_kind : (P : IntKind → (ℤ → ℤ) → Type 0) → P kinds.Bool truth_of → ((kind : IntKind) → P kind (wrapped kind)) → (kind : IntKind) → P kind (converted kind)
by_kind P truth wraps kinds.Bool = truth
by_kind P truth wraps kind = wraps kind

-- true and false are the numbers of _Bool
truth-in_range : (is_zero : Bool) → IsInRange kinds.Bool (if is_zero then pos 0 else pos 1)
truth-in_range true = (le_z_yes tt, le_z_yes tt)
truth-in_range false = (le_z_yes tt, le_z_yes tt)

-- and they stay
truth-kept : (number : ℤ) → IsInRange kinds.Bool number → truth_of number ≡ number
truth-kept (pos zero) within = refl
truth-kept (pos (suc zero)) within = refl
truth-kept (pos (suc (suc n))) within = let high : pos (suc (suc n)) ≤ℤ pos 1 = within.1 in omega (arith, ints, high)
truth-kept (negsuc n) within = absurd within.0.le

-- Laws

-- a converted number is one of its kind
pub converted_is_in_range : (kind : IntKind) (number : ℤ) → IsInRange kind (converted kind number)
converted_is_in_range =
    by_kind (λ kind convert. (number : ℤ) → IsInRange kind (convert number)) (λ number. truth-in_range (int_eq number (pos 0)))
    (λ kind number. between (least kind) (greatest kind) number (least-below kind))

-- a number of the kind stays as it is
pub converted_is_kept : (kind : IntKind) (number : ℤ) → IsInRange kind number → converted kind number ≡ number
converted_is_kept =
    by_kind (λ kind convert. (number : ℤ) → IsInRange kind number → convert number ≡ number) truth-kept
    (λ kind number within. stays (least kind) (greatest kind) number within.0 within.1)

-- a number differs from the one that it becomes, but in _Bool, by a multiple of how many numbers the kind has
pub converted_is_apart : (kind : IntKind) (number : ℤ) → kind ≢ kinds.Bool → IsApart kind number (converted kind number)
converted_is_apart =
    by_kind (λ kind convert. (number : ℤ) → kind ≢ kinds.Bool → IsApart kind number (convert number)) (λ number other. absurd (other refl))
    (λ kind number other. apart (least kind) (greatest kind) number (least-below kind))

-- a wrapped number is one of the kind, _Bool too
pub wrapped_is_in_range : (kind : IntKind) (number : ℤ) → IsInRange kind (wrapped kind number)
wrapped_is_in_range kind number = between (least kind) (greatest kind) number (least-below kind)

-- and a number of the kind stays as it is
pub wrapped_is_kept : (kind : IntKind) (number : ℤ) → IsInRange kind number → wrapped kind number ≡ number
wrapped_is_kept kind number within = stays (least kind) (greatest kind) number within.0 within.1

-- the truth of a number is a number of int
truth-is_an_int : (is_zero : Bool) → IsInRange kinds.Int (if is_zero then pos 0 else pos 1)
truth-is_an_int true = (le_z_yes tt, le_z_yes tt)
truth-is_an_int false = (le_z_yes tt, le_z_yes tt)

pub truth_is_an_int : (number : ℤ) → IsInRange kinds.Int (truth_of number)
truth_is_an_int number = truth-is_an_int (int_eq number (pos 0))
