-- The next multiple of a step.
use Rattle.std.proofs.Common.{◌≡◌, ℕ, ◌+◌, ◌-◌, ◌*◌, ◌/◌, ◌%◌, ◌<◌, ◌≤◌, sym, ap, ◌∙◌, arith, div-add-mod', mod-lt}
use Rattle.std.proofs.lemmas.Nat.{div-mul-add, mod-mul-add}
use Rattle.meaning_layout.specs.Placing.{next_multiple}

plus_zero : (n : ℕ) → n ≡ n + 0
plus_zero n = omega arith

pub next_multiple-le : (step number : ℕ) → 0 < step → number ≤ next_multiple step number
next_multiple-le step number some =
    let parts = div-add-mod' (number + (step - 1)) step in
    let below = mod-lt (number + (step - 1)) some in
    omega (arith, parts, below)

pub next_multiple-mod : (step number : ℕ) → 0 < step → next_multiple step number % step ≡ 0
next_multiple-mod step number some =
    ap (λ n. n % step) (plus_zero ((number + (step - 1)) / step * step)) ∙ mod-mul-add ((number + (step - 1)) / step) step 0 some

-- so many numbers from a multiple on, no more than the step, have one quotient
pub next_multiple-div : (step number count : ℕ) → 0 < count → count ≤ step → next_multiple step number / step ≡ (next_multiple step number + (count - 1)) / step
next_multiple-div step number count some few =
    let quotient = (number + (step - 1)) / step in
    ap (λ n. n / step) (plus_zero (quotient * step)) ∙ div-mul-add quotient step 0 (omega arith)
    ∙ sym (div-mul-add quotient step (count - 1) (omega arith))

pub zero_times : (step number : ℕ) → number ≡ 0 * step + number
zero_times step number = omega arith

-- less than a step has the quotient 0
pub below-div : (step number : ℕ) → number < step → number / step ≡ 0
below-div step number less = ap (λ n. n / step) (zero_times step number) ∙ div-mul-add 0 step number less
