-- Numbers in decimal are read back.
use Rattle.std.proofs.Common.{◌≡◌, ℕ, suc, ◌+◌, ◌-◌, ◌*◌, ◌^◌, ◌<◌, ◌≤◌, ℤ, pos, negsuc, neg_ℤ, Bool, true, false, ◌||◌, not, ◌==◌, nat_le, List, [], ◌∷◌, ◌++◌, length, if◌then◌else◌, refl, sym, ap, ap₂, ◌∙◌, arith}
use Rattle.std.proofs.lemmas.Bool.{eqb-true}
use Rattle.std.proofs.lemmas.Bool.Decides.{nat_tests}
use Rattle.std.specs.Fmt.{decimal, signed_decimal}
use Rattle.std.proofs.lemmas.Fmt.{decimal_is_IsNumeral}
use Rattle.std.proofs.lemmas.Str.{digit_value_digit}
use Rattle.std.proofs.lemmas.Str.Parse.{digit_from_value}
use Rattle.std.specs.Str.Parse.{AllDigits, IsNumeral, digits_value, digits_value_after}
use Rattle.std.specs.Char.{digit_value}
use Rattle.control_flow.specs.Shown.{shown_change}
use Rattle.flows.specs.declared.wrong.Wrong.TheVariants.{LargeNumber, NoNumber}
use Rattle.flows.specs.Reading.{Reads, Fails, behind_spaces, bounded, digits_from, is_digit, negative_at, number_at, positive_at, reads_on, signed_at}
use Rattle.flows.specs.Lines.{begins_number}
use Rattle.flows.specs.Written.{IsCount}

-- no digit stands there
abbrev pub EndsNumber : List ℕ → Type 0
EndsNumber [] = Unit {0}
EndsNumber (byte ∷ rest) = is_digit byte ≡ false

digit-true : (byte : ℕ) → 48 ≤ byte → byte ≤ 57 → is_digit byte ≡ true
digit-true byte low high = grind (arith, nat_tests)

is-digit : (byte : ℕ) → digit_value byte < 10 → is_digit byte ≡ true
is-digit byte is = let range = digit_from_value byte is in digit-true byte range.0 range.1

digit-worth : (byte : ℕ) → digit_value byte < 10 → digit_value byte ≡ byte - 48
digit-worth byte is = omega (arith, digit_value_digit byte (digit_from_value byte is))

-- digits, and what stands behind them
digits-read : (number : ℕ) (digits rest : List ℕ) → AllDigits 10 digits → EndsNumber rest → digits_from number (digits ++ rest) ≡ (digits_value_after 10 number digits, rest)
digits-read number [] [] are ends = refl
digits-read number [] (byte ∷ rest) are ends =
    ap (λ test. if test then digits_from (number * 10 + (byte - 48)) rest else (number, byte ∷ rest)) ends
digits-read number (digit ∷ digits) rest are ends =
    ap (λ test. if test then digits_from (number * 10 + (digit - 48)) (digits ++ rest) else (number, digit ∷ (digits ++ rest))) (is-digit digit are.0)
    ∙ ap (λ worth. digits_from (number * 10 + worth) (digits ++ rest)) (sym (digit-worth digit are.0))
    ∙ digits-read (number * 10 + digit_value digit) digits rest are.1 ends

below-true : (number most : ℕ) → number ≤ most → nat_le number most ≡ true
below-true number most below = grind (arith, nat_tests)

numeral-read : (most : ℕ) (digits rest : List ℕ) → IsNumeral 10 digits → EndsNumber rest → digits_value 10 digits ≤ most
    → number_at most (digits ++ rest) ≡ Reads (digits_value 10 digits) rest
numeral-read most [] rest is ends below = absurd (omega (arith, is.0))
numeral-read most (digit ∷ digits) rest is ends below =
    let worth : digit - 48 ≡ 0 * 10 + digit_value digit = omega (arith, digit-worth digit is.1.0) in
    ap (λ test. if test then bounded most (1 + length (digits ++ rest)) (digits_from (digit - 48) (digits ++ rest)) else Fails NoNumber (1 + length (digits ++ rest))) (is-digit digit is.1.0)
    ∙ ap (λ first. bounded most (1 + length (digits ++ rest)) (digits_from first (digits ++ rest))) worth
    ∙ ap (bounded most (1 + length (digits ++ rest))) (digits-read (0 * 10 + digit_value digit) digits rest is.1.1 ends)
    ∙ ap (λ test. if test then Reads (digits_value 10 (digit ∷ digits)) rest else Fails LargeNumber (1 + length (digits ++ rest))) (below-true (digits_value 10 (digit ∷ digits)) most below)

pub number-read : (most number : ℕ) (rest : List ℕ) → number < 2 ^ 64 → number ≤ most → EndsNumber rest → number_at most (decimal number ++ rest) ≡ Reads number rest
number-read most number rest small below ends =
    let is = decimal_is_IsNumeral number small in
    numeral-read most (decimal number) rest is.0 ends (omega (arith, is.1, below)) ∙ ap (λ read. Reads read rest) is.1

-- The first byte of digits

not-mark : (byte mark : ℕ) → is_digit byte ≡ true → is_digit mark ≡ false → (byte == mark) ≡ false
not-mark byte mark is isnt = by (byte == mark) refl
  where
    by : (test : Bool) → (byte == mark) ≡ test → (byte == mark) ≡ false
    by true same = absurd (cc (is, isnt, eqb-true byte mark same))
    by false apart = apart

-- what stands at digits, by their first byte
pub record BeginsWithDigit (text : List ℕ) : Type 0 where
  pub first : ℕ
  pub others : List ℕ
  pub split : text ≡ first ∷ others
  pub digit : is_digit first ≡ true

begins-numeral : (digits rest : List ℕ) → IsNumeral 10 digits → BeginsWithDigit (digits ++ rest)
begins-numeral [] rest is = absurd (omega (arith, is.0))
begins-numeral (digit ∷ digits) rest is = record { first = digit; others = digits ++ rest; split = refl; digit = is-digit digit is.1.0 }

pub begins-decimal : (number : ℕ) (rest : List ℕ) → number < 2 ^ 64 → BeginsWithDigit (decimal number ++ rest)
begins-decimal number rest small = begins-numeral (decimal number) rest (decimal_is_IsNumeral number small).0

pub digit-stays : (text : List ℕ) → BeginsWithDigit text → behind_spaces text ≡ text
digit-stays text begins =
    ap behind_spaces begins.split
    ∙ ap (λ test. if test then behind_spaces begins.others else begins.first ∷ begins.others) (not-mark begins.first 32 begins.digit refl)
    ∙ sym begins.split

-- Counts

unsigned-read : (text : List ℕ) → BeginsWithDigit text → signed_at text ≡ positive_at text
unsigned-read text begins =
    ap signed_at begins.split
    ∙ ap
    (λ test. if test then negative_at begins.others else (if begins.first == 43 then positive_at begins.others else positive_at (begins.first ∷ begins.others)))
    (not-mark begins.first 45 begins.digit refl)
    ∙ ap (λ test. if test then positive_at begins.others else positive_at (begins.first ∷ begins.others)) (not-mark begins.first 43 begins.digit refl)
    ∙ ap positive_at (sym begins.split)

positive-read : (number : ℕ) (rest : List ℕ) → number < 2 ^ 63 → EndsNumber rest → positive_at (decimal number ++ rest) ≡ Reads (pos number) rest
positive-read number rest small ends =
    ap (λ found. reads_on found (λ number rest. Reads (pos number) rest)) (number-read (2 ^ 63 - 1) number rest (omega (arith, small)) (omega (arith, small)) ends)

negative-read : (number : ℕ) (rest : List ℕ) → number < 2 ^ 63 → EndsNumber rest → negative_at (decimal (suc number) ++ rest) ≡ Reads (negsuc number) rest
negative-read number rest small ends =
    ap (λ found. reads_on found (λ number rest. Reads (neg_ℤ (pos number)) rest))
    (number-read (2 ^ 63) (suc number) rest (omega (arith, small)) (omega (arith, small)) ends)

pub count-read : (count : ℤ) (rest : List ℕ) → IsCount count → EndsNumber rest → signed_at (signed_decimal count ++ rest) ≡ Reads count rest
count-read (pos number) rest small ends =
    unsigned-read (decimal number ++ rest) (begins-decimal number rest (omega (arith, small))) ∙ positive-read number rest small ends
count-read (negsuc number) rest small ends = negative-read number rest small ends

pub change-read : (by : ℤ) (rest : List ℕ) → IsCount by → EndsNumber rest → signed_at (shown_change by ++ rest) ≡ Reads by rest
change-read (pos number) rest small ends = positive-read number rest small ends
change-read (negsuc number) rest small ends = negative-read number rest small ends

-- a count begins with no space
pub count-stays : (count : ℤ) (rest : List ℕ) → IsCount count → behind_spaces (signed_decimal count ++ rest) ≡ signed_decimal count ++ rest
count-stays (pos number) rest small = digit-stays (decimal number ++ rest) (begins-decimal number rest (omega (arith, small)))
count-stays (negsuc number) rest small = refl

-- a change ends the number before it
pub change-ends : (by : ℤ) (rest : List ℕ) → EndsNumber (shown_change by ++ rest)
change-ends (pos number) rest = refl
change-ends (negsuc number) rest = refl

-- digits go on in a list of numbers
pub digit-goes : (text : List ℕ) → BeginsWithDigit text → begins_number text ≡ true
digit-goes text begins =
    ap begins_number begins.split
    ∙ ap₂ (λ one other. not (one || other)) (not-mark begins.first 124 begins.digit refl) (not-mark begins.first 59 begins.digit refl)
