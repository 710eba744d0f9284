-- Worked examples: short literals and their values, or why they are refused.
use Rattle.std.specs.Prelude.{◌≡◌, ℕ, ◌-◌, ◌^◌, Option, Some, None, Result, Ok, Err, List, [], ◌∷◌, ◌++◌, map, replicate, codes}
use Rattle.vocabulary.specs.declared.int_kind.IntKind.{IntKind}
use Rattle.vocabulary.specs.declared.int_kind.IntKind.TheVariants.{Int, UInt, Long, ULong, LLong, ULLong}
use Rattle.meaning_literals.specs.Numbers.{Base, Decimal, Octal, Hexadecimal}
use Rattle.meaning_literals.specs.Suffixes.{Suffix, NoSuffix, U, L, UL, LL, ULL, suffixes, suffix_of}
use Rattle.meaning_literals.specs.Kinds.{kinds_of, first_that_holds}
use Rattle.meaning_literals.specs.Constants.{Constant, Fault, BadDigitFault, BadSuffixFault, TooBigFault, FloatingFault, BadEscapeFault, EmptyFault, WideFault, UniversalFault}
use Rattle.meaning_literals.specs.Integers.{integer_of}
use Rattle.meaning_literals.specs.Elements.{Plain, Escape, UnknownEscape, UniversalName, elements_of}
use Rattle.meaning_literals.specs.Quoted.{char_of, string_of}

-- a constant of this kind and value
abbrev pub is_constant : IntKind → ℕ → Result Constant Fault
is_constant kind bits = Ok (record { kind = kind; bits = bits })

pub record IntegerExamples : Type 0 where
  pub zero_is_octal : integer_of (codes "0") ≡ is_constant Int 0
  pub octal : integer_of (codes "0177") ≡ is_constant Int 127
  pub decimal : integer_of (codes "90") ≡ is_constant Int 90
  pub hexadecimal : integer_of (codes "0xaF") ≡ is_constant Int 175
  pub e_is_a_hexadecimal_digit : integer_of (codes "0X1e5") ≡ is_constant Int 485
  pub hexadecimal_goes_to_unsigned_int : integer_of (codes "0x80000000") ≡ is_constant UInt 2147483648
  pub decimal_goes_to_long : integer_of (codes "2147483648") ≡ is_constant Long 2147483648
  pub greatest_int : integer_of (codes "2147483647") ≡ is_constant Int 2147483647
  pub greatest_unsigned_long : integer_of (codes "18446744073709551615u") ≡ is_constant ULong 18446744073709551615
  pub greatest_long : integer_of (codes "9223372036854775807") ≡ is_constant Long 9223372036854775807
  pub long_long : integer_of (codes "1ll") ≡ is_constant LLong 1
  pub unsigned_long_long : integer_of (codes "0xffffffffffffffffLL") ≡ is_constant ULLong 18446744073709551615
  pub too_big_for_64_bits : integer_of (codes "18446744073709551616") ≡ Err TooBigFault
  pub too_big_for_a_signed_kind : integer_of (codes "9223372036854775808") ≡ Err TooBigFault
  pub too_big_in_hexadecimal : integer_of (codes "0x10000000000000000") ≡ Err TooBigFault
  pub nine_is_no_octal_digit : integer_of (codes "09") ≡ Err BadDigitFault
  pub digits_are_wanting : integer_of (codes "0xu") ≡ Err BadDigitFault
  pub nothing : integer_of [] ≡ Err BadDigitFault
  pub digit_goes_before_suffix : integer_of (codes "08uu") ≡ Err BadDigitFault
  pub twice_unsigned : integer_of (codes "1uu") ≡ Err BadSuffixFault
  pub no_binary_constants : integer_of (codes "0b1") ≡ Err BadSuffixFault
  pub suffix_goes_before_size : integer_of (codes "18446744073709551616lul") ≡ Err BadSuffixFault
  pub period : integer_of (codes "1.0") ≡ Err FloatingFault
  pub exponents : map integer_of (codes "1e5" ∷ codes "1E5" ∷ codes "01e5" ∷ codes "01E5" ∷ []) ≡ replicate 4 (Err FloatingFault)
  pub hexadecimal_floating : map integer_of (codes "0x1p3" ∷ codes "0X1P3" ∷ codes "0x.8p0" ∷ codes "0x1.8" ∷ []) ≡ replicate 4 (Err FloatingFault)
  -- also an `e` that is a digit of a universal character name
  pub e_in_universal : integer_of (codes "1u\\u00e9") ≡ Err FloatingFault
  pub floating_goes_before_digit : integer_of (codes "09.5") ≡ Err FloatingFault

-- The table of 6.4.4.1 p5: which kinds are given to the values on both sides of each limit.

abbrev pub values_at_limits : List ℕ
values_at_limits =
    1 ∷ 2147483647 ∷ 2147483648 ∷ 4294967295 ∷ 4294967296 ∷ 9223372036854775807 ∷ 9223372036854775808
    ∷ 18446744073709551615 ∷ 18446744073709551616 ∷ []

abbrev pub kinds_at_limits : Base → Suffix → List (Option IntKind)
kinds_at_limits base suffix = map (λ value. first_that_holds value (kinds_of base suffix)) values_at_limits

-- so many of the values in turn are of this kind
abbrev pub values_of : ℕ → IntKind → List (Option IntKind)
values_of count kind = replicate count (Some kind)

-- and so many of none
abbrev pub refused_values : ℕ → List (Option IntKind)
refused_values count = replicate count None

pub record KindExamples : Type 0 where
  pub decimal : kinds_at_limits Decimal NoSuffix ≡ values_of 2 Int ++ values_of 4 Long ++ refused_values 3
  pub octal :
      kinds_at_limits Octal NoSuffix
      ≡ values_of 2 Int ++ values_of 2 UInt ++ values_of 2 Long ++ values_of 2 ULong ++ refused_values 1
  pub decimal_unsigned : kinds_at_limits Decimal U ≡ values_of 4 UInt ++ values_of 4 ULong ++ refused_values 1
  pub octal_unsigned : kinds_at_limits Octal U ≡ values_of 4 UInt ++ values_of 4 ULong ++ refused_values 1
  pub decimal_long : kinds_at_limits Decimal L ≡ values_of 6 Long ++ refused_values 3
  pub octal_long : kinds_at_limits Octal L ≡ values_of 6 Long ++ values_of 2 ULong ++ refused_values 1
  pub decimal_unsigned_long : kinds_at_limits Decimal UL ≡ values_of 8 ULong ++ refused_values 1
  pub octal_unsigned_long : kinds_at_limits Octal UL ≡ values_of 8 ULong ++ refused_values 1
  pub decimal_long_long : kinds_at_limits Decimal LL ≡ values_of 6 LLong ++ refused_values 3
  pub octal_long_long : kinds_at_limits Octal LL ≡ values_of 6 LLong ++ values_of 2 ULLong ++ refused_values 1
  pub decimal_unsigned_long_long : kinds_at_limits Decimal ULL ≡ values_of 8 ULLong ++ refused_values 1
  pub octal_unsigned_long_long : kinds_at_limits Octal ULL ≡ values_of 8 ULLong ++ refused_values 1
  -- hexadecimal constants stand in the column of octal ones
  pub hexadecimal : map (kinds_at_limits Hexadecimal) suffixes ≡ map (kinds_at_limits Octal) suffixes

pub record SuffixExamples : Type 0 where
  pub none : suffix_of [] ≡ Some NoSuffix
  pub unsigned : map suffix_of (codes "u" ∷ codes "U" ∷ []) ≡ replicate 2 (Some U)
  pub long : map suffix_of (codes "l" ∷ codes "L" ∷ []) ≡ replicate 2 (Some L)
  pub long_long : map suffix_of (codes "ll" ∷ codes "LL" ∷ []) ≡ replicate 2 (Some LL)
  pub unsigned_long :
      map suffix_of (codes "ul" ∷ codes "uL" ∷ codes "Ul" ∷ codes "UL" ∷ codes "lu" ∷ codes "lU" ∷ codes "Lu" ∷ codes "LU" ∷ [])
      ≡ replicate 8 (Some UL)
  pub unsigned_long_long :
      map suffix_of (codes "ull" ∷ codes "uLL" ∷ codes "Ull" ∷ codes "ULL" ∷ codes "llu" ∷ codes "llU" ∷ codes "LLu" ∷ codes "LLU" ∷ [])
      ≡ replicate 8 (Some ULL)
  pub no_suffix :
      map suffix_of (codes "lL" ∷ codes "Ll" ∷ codes "uu" ∷ codes "lul" ∷ codes "lll" ∷ codes "ulL" ∷ codes "z" ∷ codes " " ∷ [])
      ≡ replicate 8 None

pub record CharacterExamples : Type 0 where
  pub letter : char_of (codes "'a'") ≡ is_constant Int 97
  pub new_line : char_of (codes "'\\n'") ≡ is_constant Int 10
  pub apostrophe : char_of (codes "'\\''") ≡ is_constant Int 39
  pub zero_byte : char_of (codes "'\\0'") ≡ is_constant Int 0
  pub greatest_char : char_of (codes "'\\177'") ≡ is_constant Int 127
  pub least_char : char_of (codes "'\\200'") ≡ is_constant Int (2 ^ 64 - 128)
  pub char_is_signed : char_of (codes "'\\377'") ≡ is_constant Int (2 ^ 64 - 1)
  pub hexadecimal : char_of (codes "'\\xfF'") ≡ is_constant Int (2 ^ 64 - 1)
  pub byte_is_a_character : char_of (codes "'" ++ 233 ∷ codes "'") ≡ is_constant Int (2 ^ 64 - 23)
  pub leading_zeros : char_of (codes "'\\x00000000000000000041'") ≡ is_constant Int 65
  pub above_255 : char_of (codes "'\\400'") ≡ Err BadEscapeFault
  pub hexadecimal_above_255 : char_of (codes "'\\x100'") ≡ Err BadEscapeFault
  pub no_hexadecimal_digit : char_of (codes "'\\x'") ≡ Err BadEscapeFault
  pub unknown_escape : char_of (codes "'\\q'") ≡ Err BadEscapeFault
  pub two_characters : char_of (codes "'ab'") ≡ Err BadEscapeFault
  pub fourth_octal_digit : char_of (codes "'\\0001'") ≡ Err BadEscapeFault
  pub empty : char_of (codes "''") ≡ Err EmptyFault
  pub wide : map char_of (codes "L'a'" ∷ codes "u'a'" ∷ codes "U'a'" ∷ codes "L''" ∷ []) ≡ replicate 4 (Err WideFault)
  pub universal : char_of (codes "'\\u00e9'") ≡ Err UniversalFault
  pub long_universal : char_of (codes "'\\U000000E9'") ≡ Err UniversalFault
  pub universal_with_three_digits : char_of (codes "'\\u00e'") ≡ Err BadEscapeFault
  pub universal_with_seven_digits : char_of (codes "'\\U00000e9'") ≡ Err BadEscapeFault
  pub universal_is_second : char_of (codes "'a\\u00e9'") ≡ Err UniversalFault
  pub universal_is_third : char_of (codes "'ab\\u00e9'") ≡ Err BadEscapeFault
  pub unknown_escape_goes_first : char_of (codes "'\\q\\u00e9'") ≡ Err BadEscapeFault
  pub universal_goes_first : char_of (codes "'\\u00e9\\q'") ≡ Err UniversalFault

pub record StringExamples : Type 0 where
  pub empty : string_of (codes "\"\"") ≡ Ok []
  pub no_last_zero : string_of (codes "\"ab\"") ≡ Ok (codes "ab")
  pub simple_escapes :
      string_of (codes "\"\\'\\\"\\?\\\\\\a\\b\\f\\n\\r\\t\\v\"") ≡ Ok (39 ∷ 34 ∷ 63 ∷ 92 ∷ 7 ∷ 8 ∷ 12 ∷ 10 ∷ 13 ∷ 9 ∷ 11 ∷ [])
  pub zero_byte : string_of (codes "\"a\\0b\"") ≡ Ok (97 ∷ 0 ∷ 98 ∷ [])
  pub at_most_three_octal_digits : string_of (codes "\"\\1234\\18\"") ≡ Ok (83 ∷ 52 ∷ 1 ∷ 56 ∷ [])
  pub all_hexadecimal_digits : string_of (codes "\"\\x41g\"") ≡ Ok (65 ∷ 103 ∷ [])
  pub raw_bytes : string_of (codes "\"" ++ 255 ∷ 10 ∷ codes "\"") ≡ Ok (255 ∷ 10 ∷ [])
  pub inner_mark : string_of (codes "\"a\"b\"") ≡ Ok (codes "a\"b")
  pub above_255 : string_of (codes "\"\\x42C\"") ≡ Err BadEscapeFault
  pub last_backslash : string_of (codes "\"\\\"") ≡ Err BadEscapeFault
  pub wide : map string_of (codes "L\"a\"" ∷ codes "u\"a\"" ∷ codes "U\"a\"" ∷ codes "u8\"\\q\"" ∷ []) ≡ replicate 4 (Err WideFault)
  pub universal : string_of (codes "\"\\u00e9\"") ≡ Err UniversalFault
  pub unknown_escape_goes_first : string_of (codes "\"a\\q\\u00e9\"") ≡ Err BadEscapeFault
  pub universal_goes_first : string_of (codes "\"a\\u00e9\\q\"") ≡ Err UniversalFault
  pub elements :
      elements_of (codes "a\\t\\x4\\u00e99\\u12\\")
      ≡ Plain 97 ∷ Escape 9 ∷ Escape 4 ∷ UniversalName ∷ Plain 57 ∷ UnknownEscape ∷ Plain 49 ∷ Plain 50 ∷ UnknownEscape ∷ []
