-- The parts of an integer constant.
use Rattle.std.proofs.Common.{◌≡◌, ℕ, ◌==◌, false, List, [], ◌∷◌, length, bytes_eq, refl, sym, ap, ◌∙◌, arith}
use Rattle.std.proofs.lemmas.Bool.Decides.{nat_tests}
use Rattle.meaning_literals.specs.Numbers.{Base, digits_of, behind_digits}
use Rattle.meaning_literals.specs.Suffixes.{suffix_of}
use Rattle.meaning_literals.specs.Integers.{begins_with_digit, constant_with, numeral_constant}

no_bytes-length : (text : List ℕ) → bytes_eq text [] ≡ (length text == 0)
no_bytes-length [] = refl
no_bytes-length (b ∷ text) = grind (arith, nat_tests)

-- with a digit, and none of another base behind them, the constant is that of its parts
pub numeral_constant-parts : (base : Base) (numeral digits behind : List ℕ) → digits ≡ digits_of base numeral → behind ≡ behind_digits base numeral → (length digits == 0) ≡ false → begins_with_digit behind ≡ false → numeral_constant base numeral ≡ constant_with base digits (suffix_of behind)
numeral_constant-parts base numeral digits behind front back some stops =
    let any : bytes_eq (digits_of base numeral) [] ≡ false = ap (λ text. bytes_eq text []) (sym front) ∙ no_bytes-length digits ∙ some in
    let none : begins_with_digit (behind_digits base numeral) ≡ false = ap begins_with_digit (sym back) ∙ stops in
    let parted : numeral_constant base numeral ≡ constant_with base (digits_of base numeral) (suffix_of (behind_digits base numeral)) = rw (any, none) refl in
    parted ∙ ap (λ text. constant_with base text (suffix_of (behind_digits base numeral))) (sym front) ∙ ap (λ text. constant_with base digits (suffix_of text)) (sym back)
