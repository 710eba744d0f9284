-- Decimal digits are read as the number that they write.
use Rattle.std.proofs.Common.{◌≡◌, ℕ, suc, zero, ◌<◌, Bool, true, false, ◌||◌, pos, ◌≤ℤ◌, int_le, Some, Result, Ok, Err, List, [], ◌∷◌, get_or, drop, codes, decimal, if◌then◌else◌, rules, refl, ap, ◌∙◌, subst, arith}
use Rattle.std.specs.Str.{bytes_eq}
use Rattle.std.specs.List.{list_all, list_any}
use Rattle.std.proofs.lemmas.Bool.Decides.{nat_tests}
use Rattle.std.proofs.lemmas.Bool.{and_parts}
use Rattle.std.proofs.lemmas.List.{append-nil}
use Rattle.std.proofs.lemmas.Fmt.{decimal_digit, digits_decimal, digits_value-decimal, first_decimal}
use Rattle.std.proofs.lemmas.Str.Parse.{IsNumeralModel, numerals_by_weight}
use Rattle.vocabulary.specs.declared.int_kind.IntKind.TheVariants.{Int, Long}
use Rattle.meaning_types.specs.Ranges.{greatest}
use Rattle.meaning_literals.specs.Numbers.{Decimal, is_digit_of, behind_digits, number}
use Rattle.meaning_literals.specs.Suffixes.{NoSuffix, suffix_of}
use Rattle.meaning_literals.specs.Kinds.{decimal_kinds, first_that_holds}
use Rattle.meaning_literals.specs.Constants.{Constant, Fault, BadDigitFault}
use Rattle.meaning_literals.specs.Bytes.{is_one_of}
use Rattle.meaning_literals.specs.Integers.{begins_with_digit, has_hexadecimal_prefix, base_of, behind_prefix, is_floating, floating_marks, constant_of_kind, constant_with, numeral_constant, integer_of}
use Rattle.meaning_literals.proofs.Runs.{IsRun, IsRun-append, take-run, drop-run}

-- decimal digits, and their number, are those of the texts that std writes
are_numerals : IsNumeralModel (λ digits. list_all (is_digit_of Decimal) digits ≡ true) (number Decimal)
are_numerals = numerals_by_weight _ (search rules) (number Decimal) (search rules)

-- a digit is no mark of a floating constant
digit_is_no_mark : (b : ℕ) → is_digit_of Decimal b ≡ true → is_one_of (codes ".eE") b ≡ false
digit_is_no_mark b digit = grind (arith, nat_tests)

-- nor has a text of digits one
digits_have_no_mark : (digits : List ℕ) → list_all (is_digit_of Decimal) digits ≡ true → list_any (is_one_of (codes ".eE")) digits ≡ false
digits_have_no_mark [] all = refl
digits_have_no_mark (b ∷ digits) all =
    let parts = and_parts (is_digit_of Decimal b) _ all in
    let first = digit_is_no_mark b parts.0 in
    let others = digits_have_no_mark digits parts.1 in
    rw (first, others) refl

not_zero : (b : ℕ) → 48 < b → is_one_of (codes "0") b ≡ false
not_zero b above = grind (arith, nat_tests)

-- without a zero in front there is no prefix
has_hexadecimal_prefix-none : (b : ℕ) (text : List ℕ) → is_one_of (codes "0") b ≡ false → has_hexadecimal_prefix (b ∷ text) ≡ false
has_hexadecimal_prefix-none b [] none = refl
has_hexadecimal_prefix-none b (c ∷ text) none = rw none refl

base_of-decimal : (b : ℕ) (text : List ℕ) → is_one_of (codes "0") b ≡ false → base_of (b ∷ text) ≡ Decimal
base_of-decimal b text none =
    let prefix = has_hexadecimal_prefix-none b text none in
    rw (prefix, none) refl

-- digits alone are a run to the end of the text
IsRun-digits : (digits : List ℕ) → list_all (is_digit_of Decimal) digits ≡ true → IsRun (is_digit_of Decimal) digits digits []
IsRun-digits digits all =
    subst (λ text. IsRun (is_digit_of Decimal) text digits []) (append-nil digits) (IsRun-append (is_digit_of Decimal) digits [] all refl)

-- the constant of digits and what follows them
abbrev constant_from : List ℕ → List ℕ → Result Constant Fault
constant_from digits behind =
    if bytes_eq digits [] || begins_with_digit behind then Err BadDigitFault else constant_with Decimal digits (suffix_of behind)

numeral_constant-digits :
    (b : ℕ) (digits : List ℕ) → list_all (is_digit_of Decimal) (b ∷ digits) ≡ true
    → numeral_constant Decimal (b ∷ digits) ≡ constant_with Decimal (b ∷ digits) (Some NoSuffix)
numeral_constant-digits b digits all =
    let text = b ∷ digits in
    let run = IsRun-digits text all in
    let front = take-run (is_digit_of Decimal) text text [] run in
    let back : behind_digits Decimal text ≡ [] = ap (λ n. drop n text) run.count ∙ drop-run (is_digit_of Decimal) text text [] run in
    ap (λ ds. constant_from ds (behind_digits Decimal text)) front ∙ ap (constant_from text) back

-- digits without a zero in front are their number
integer_of-digits :
    (digits : List ℕ) → list_all (is_digit_of Decimal) digits ≡ true → 48 < get_or digits 0 0 → integer_of digits ≡ constant_with Decimal digits (Some NoSuffix)
integer_of-digits [] all above = absurd (omega arith)
integer_of-digits (b ∷ digits) all above =
    let text = b ∷ digits in
    let base = base_of-decimal b digits (not_zero b above) in
    let floating : is_floating text ≡ false = ap (λ base. list_any (is_one_of (floating_marks base)) text) base ∙ digits_have_no_mark text all in
    let read : integer_of text ≡ numeral_constant (base_of text) (behind_prefix (base_of text) text) = rw floating refl in
    read ∙ ap (λ base. numeral_constant base (behind_prefix base text)) base ∙ numeral_constant-digits b digits all

kind_from :
    (n : ℕ) (small : Bool) → int_le (pos n) (greatest Int) ≡ small → pos n ≤ℤ greatest Long
    → first_that_holds n (decimal_kinds NoSuffix) ≡ Some (if small then Int else Long)
kind_from n true same fits = rw same refl
kind_from n false same fits =
    let holds : int_le (pos n) (greatest Long) ≡ true = grind (arith, nat_tests) in
    rw (same, holds) refl

-- the kind of a number that a long holds
kind_of_number : (n : ℕ) → pos n ≤ℤ greatest Long → first_that_holds n (decimal_kinds NoSuffix) ≡ Some (if int_le (pos n) (greatest Int) then Int else Long)
kind_of_number n fits = kind_from n (int_le (pos n) (greatest Int)) refl fits

pub integer_of-decimal :
    (n : ℕ) → pos n ≤ℤ greatest Long → integer_of (decimal n) ≡ Ok (record { kind = if int_le (pos n) (greatest Int) then Int else Long; bits = n })
integer_of-decimal zero fits = ap integer_of (decimal_digit 0 (grind arith))
integer_of-decimal (suc n) fits =
    let number_is = digits_value-decimal are_numerals (suc n) (grind arith) in
    let read = integer_of-digits (decimal (suc n)) (digits_decimal are_numerals (suc n) (grind arith)) (first_decimal (suc n) (grind arith) (grind arith)) in
    read ∙ ap (λ value. constant_of_kind value (first_that_holds value (decimal_kinds NoSuffix))) number_is ∙ ap (constant_of_kind (suc n)) (kind_of_number (suc n) fits)
