-- Digits never make the number before them less.
use Rattle.std.proofs.Common.{◌≡◌, ℕ, ◌+◌, ◌-◌, ◌*◌, ◌^◌, ◌≤◌, Bool, true, false, List, [], ◌∷◌, if◌then◌else◌, sym, ap, ◌∙◌, subst, arith}
use Rattle.flows.specs.Reading.{digits_from, is_digit}

grow-if : (test : Bool) (number : ℕ) (one other : ℕ × List ℕ) → number ≤ one.0 → number ≤ other.0 → number ≤ (if test then one else other).0
grow-if true number one other below below_too = below
grow-if false number one other below below_too = below_too

pub digits-grow : (number : ℕ) (text : List ℕ) → number ≤ (digits_from number text).0
digits-grow number [] = omega arith
digits-grow number (byte ∷ rest) =
    grow-if (is_digit byte) number (digits_from (number * 10 + (byte - 48)) rest) (number, byte ∷ rest) (omega (arith, digits-grow (number * 10 + (byte - 48)) rest)) (omega arith)

-- one digit more at a number that is too large then makes all of it too large
pub too-many : (number byte : ℕ) (rest others : List ℕ) (all : ℕ × List ℕ) → rest ≡ byte ∷ others → is_digit byte ≡ true → digits_from number rest ≡ all
    → 2 ^ 64 ≤ number * 10 + (byte - 48) → 2 ^ 64 ≤ all.0
too-many number byte rest others all split digit same large =
    let goes : digits_from number (byte ∷ others) ≡ digits_from (number * 10 + (byte - 48)) others =
    ap (λ (test : Bool). if test then digits_from (number * 10 + (byte - 48)) others else (number, byte ∷ others)) digit
    in
    let whole = sym goes ∙ ap (digits_from number) (sym split) ∙ same in
    subst (λ (digits : ℕ × List ℕ). 2 ^ 64 ≤ digits.0) whole (omega (arith, large, digits-grow (number * 10 + (byte - 48)) others))
