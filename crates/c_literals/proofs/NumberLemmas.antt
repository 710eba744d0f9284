-- Numbers, digit by digit.
use Rattle.std.proofs.Common.{◌≡◌, ℕ, ◌+◌, ◌*◌, ◌^◌, ◌<◌, ◌≤◌, List, ◌∷◌, length, sym, ap, ◌∙◌, arith}
use Rattle.std.proofs.Math.Nat.{one-le-pow, pow-suc, mul-le-mul_left}
use Rattle.std.specs.Char.{digit_value}
use Rattle.meaning_literals.specs.Numbers.{Base, Octal, Decimal, Hexadecimal, radix, number}

-- a number before digits, and the digits, make up this number
abbrev pub number_before : Base → ℕ → List ℕ → ℕ
number_before base value digits = value * radix base ^ length digits + number base digits

-- a product with one factor more at its end
join_factor : (v r p d n : ℕ) → v * (p * r) + (d * p + n) ≡ (v * r + d) * p + n
join_factor v r p d n = omega arith

-- the first digit joins the number before it
pub number_before-digit : (base : Base) (value b : ℕ) (digits : List ℕ) → number_before base value (b ∷ digits) ≡ number_before base (value * radix base + digit_value b) digits
number_before-digit base value b digits =
    ap (λ power. value * power + (digit_value b * radix base ^ length digits + number base digits)) (pow-suc (radix base) (length digits))
    ∙ join_factor value (radix base) (radix base ^ length digits) (digit_value b) (number base digits)

-- a radix isn't zero
0<radix : (base : Base) → 0 < radix base
0<radix Octal = omega arith
0<radix Decimal = omega arith
0<radix Hexadecimal = omega arith

-- digits never make the number before them less
pub number_before-le : (base : Base) (value : ℕ) (digits : List ℕ) → value ≤ number_before base value digits
number_before-le base value digits =
    omega (arith, mul-le-mul_left value (one-le-pow (length digits) (radix base) (0<radix base)))

-- where a number and what is left make up all of it, they do so behind the next digit
pub number_before-next : (base : Base) (value b : ℕ) (rest others : List ℕ) (all : ℕ) → rest ≡ b ∷ others → number_before base value rest ≡ all → number_before base (value * radix base + digit_value b) others ≡ all
number_before-next base value b rest others all split before =
    sym (number_before-digit base value b others) ∙ ap (number_before base value) (sym split) ∙ before
