-- The value of an integer constant (C11 6.4.4.1).
use Rattle.std.specs.Prelude.{ℕ, Bool, false, ◌&&◌, ◌||◌, Option, Some, None, Result, Ok, Err, List, [], ◌∷◌, drop, codes, if◌then◌else◌}
use Rattle.std.specs.Str.{bytes_eq}
use Rattle.std.specs.List.{list_any}
use Rattle.std.specs.Char.{is_ascii_digit}
use Rattle.vocabulary.specs.declared.int_kind.IntKind.{IntKind}
use Rattle.meaning_literals.specs.Bytes.{is_one_of}
use Rattle.meaning_literals.specs.Numbers.{Base, Octal, Decimal, Hexadecimal, digits_of, behind_digits, number}
use Rattle.meaning_literals.specs.Suffixes.{Suffix, suffix_of}
use Rattle.meaning_literals.specs.Kinds.{kinds_of, first_that_holds}
use Rattle.meaning_literals.specs.Constants.{Constant, Fault, FloatingFault, BadDigitFault, BadSuffixFault, TooBigFault}

-- the text begins with `0x` or `0X`
abbrev pub has_hexadecimal_prefix : List ℕ → Bool
has_hexadecimal_prefix [] = false
has_hexadecimal_prefix (b ∷ []) = false
has_hexadecimal_prefix (b ∷ c ∷ text) = is_one_of (codes "0") b && is_one_of (codes "xX") c

-- the text begins with `0`
abbrev pub begins_with_zero : List ℕ → Bool
begins_with_zero [] = false
begins_with_zero (b ∷ text) = is_one_of (codes "0") b

-- by the prefix `0x`, the prefix `0` or none (6.4.4.1 p3)
abbrev pub base_of : List ℕ → Base
base_of text = if has_hexadecimal_prefix text then Hexadecimal else (if begins_with_zero text then Octal else Decimal)

-- what follows the prefix; the prefix `0` is a digit
abbrev pub behind_prefix : Base → List ℕ → List ℕ
behind_prefix Octal text = text
behind_prefix Decimal text = text
behind_prefix Hexadecimal text = drop 2 text

-- a period, or the letter of an exponent in this base (6.4.4.2 p1)
abbrev pub floating_marks : Base → List ℕ
floating_marks Octal = codes ".eE"
floating_marks Decimal = codes ".eE"
floating_marks Hexadecimal = codes ".pP"

-- spelled as a floating constant is
abbrev pub is_floating : List ℕ → Bool
is_floating text = list_any (is_one_of (floating_marks (base_of text))) text

-- the text begins with a decimal digit
abbrev pub begins_with_digit : List ℕ → Bool
begins_with_digit [] = false
begins_with_digit (b ∷ text) = is_ascii_digit b

-- no digit of the base, or a decimal digit directly behind the longest run of them
abbrev pub has_bad_digit : Base → List ℕ → Bool
has_bad_digit base numeral = bytes_eq (digits_of base numeral) [] || begins_with_digit (behind_digits base numeral)

-- the constant of this value, unless no kind holds it
abbrev pub constant_of_kind : ℕ → Option IntKind → Result Constant Fault
constant_of_kind value None = Err TooBigFault
constant_of_kind value (Some kind) = Ok (record { kind = kind; bits = value })

-- the constant with these digits and this suffix
abbrev pub constant_with : Base → List ℕ → Option Suffix → Result Constant Fault
constant_with base digits None = Err BadSuffixFault
constant_with base digits (Some suffix) =
    constant_of_kind (number base digits) (first_that_holds (number base digits) (kinds_of base suffix))

-- the constant whose prefix is taken off
abbrev pub numeral_constant : Base → List ℕ → Result Constant Fault
numeral_constant base numeral =
    if has_bad_digit base numeral then Err BadDigitFault
    else constant_with base (digits_of base numeral) (suffix_of (behind_digits base numeral))

-- the constant that is spelled so, or the first fault in the order floating, digit, suffix, size
abbrev pub integer_of : List ℕ → Result Constant Fault
integer_of text =
    if is_floating text then Err FloatingFault
    else numeral_constant (base_of text) (behind_prefix (base_of text) text)
