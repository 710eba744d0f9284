-- Digits, and the numbers that they write (C11 6.4.4.1, 6.4.4.4).
use Rattle.std.specs.Prelude.{ℕ, ◌+◌, ◌*◌, ◌^◌, Bool, List, [], ◌∷◌, length, take_while, drop}
use Rattle.std.specs.List.{prefix_len}
use Rattle.std.specs.Char.{digit_value, is_digit}

-- the base of a number that digits write (6.4.4.1 p1)
pub data Base : Type 0 where
  Octal : Base
  Decimal : Base
  Hexadecimal : Base

-- how many digits the base has
abbrev pub radix : Base → ℕ
radix Octal = 8
radix Decimal = 10
radix Hexadecimal = 16

-- a digit of the base; letters in either case are the digits from 10 on
abbrev pub is_digit_of : Base → ℕ → Bool
is_digit_of base b = is_digit b (radix base)

-- the digits at the front of a text, as many as there can be
abbrev pub digits_of : Base → List ℕ → List ℕ
digits_of base text = take_while (is_digit_of base) text

-- what follows them
abbrev pub behind_digits : Base → List ℕ → List ℕ
behind_digits base text = drop (prefix_len (is_digit_of base) text) text

-- the number that digits write, the first of them the most significant (6.4.4.1 p4)
abbrev pub number : Base → List ℕ → ℕ
number base [] = 0
number base (b ∷ digits) = digit_value b * radix base ^ length digits + number base digits
