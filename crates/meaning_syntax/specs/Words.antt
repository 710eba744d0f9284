-- Which words can be names, and which can name an address space. A token is one by its whole spelling: a literal
-- with a prefix begins like a name.
use Rattle.std.specs.Prelude.{ℕ, Bool, false, ◌&&◌, ◌||◌, ◌==◌, List, [], ◌∷◌, not, nat_le}
use Rattle.std.specs.List.{list_any, list_all}
use Rattle.std.specs.Str.{bytes_eq}
use Rattle.std.specs.Str.Parse.{digits_value}
use Rattle.std.specs.Char.{is_ascii_digit}
use Rattle.vocabulary.specs.Words.{WordTable}
use Rattle.vocabulary.specs.declared.words.TheConstants.{KEYWORDS, RESERVED_WORDS, PREDEFINED_MACROS}
use Rattle.meaning_text.specs.Bytes.{underscore, is_nondigit, is_word_byte}

-- the text is one of these words
abbrev pub is_among : List ℕ → WordTable → Bool
is_among text words = list_any (λ word. bytes_eq text word.now) words

-- a keyword (C11 6.4.1)
unfoldable pub is_keyword : List ℕ → Bool
is_keyword text = is_among text KEYWORDS

-- a word that no keyword of C11 is and that can't be a name all the same
unfoldable pub is_reserved : List ℕ → Bool
is_reserved text = is_among text RESERVED_WORDS

-- a macro that is defined before the first line
unfoldable pub is_predefined_macro : List ℕ → Bool
is_predefined_macro text = is_among text PREDEFINED_MACROS

-- the text begins with `__`
abbrev pub begins_with_two_underscores : List ℕ → Bool
begins_with_two_underscores (a ∷ b ∷ text) = a == underscore && b == underscore
begins_with_two_underscores text = false

-- an identifier of letters, digits and underscores alone, without universal character names (6.4.2.1)
abbrev pub is_plain_identifier : List ℕ → Bool
is_plain_identifier [] = false
is_plain_identifier (byte ∷ bytes) = is_nondigit byte && list_all is_word_byte bytes

-- a token that can name an object or a function
unfoldable pub is_name : List ℕ → Bool
is_name text =
    is_plain_identifier text && not (is_keyword text) && not (is_reserved text) && not (begins_with_two_underscores text)

-- the value of decimal digits
abbrev pub number_of : List ℕ → ℕ
number_of digits = digits_value 10 digits

-- decimal digits without a leading zero
abbrev pub is_plain_decimal : List ℕ → Bool
is_plain_decimal [] = false
is_plain_decimal (digit ∷ digits) = list_all is_ascii_digit (digit ∷ digits) && not (digit == 48)

-- a number from 1 to 4294967295
unfoldable pub is_space_number : List ℕ → Bool
is_space_number text = is_plain_decimal text && nat_le (number_of text) 4294967295

-- an identifier that can name an address space: no keyword and no predefined macro
unfoldable pub is_space_name : List ℕ → Bool
is_space_name text = is_plain_identifier text && not (is_keyword text) && not (is_predefined_macro text)

-- a token that can stand for an address space
unfoldable pub is_space_id : List ℕ → Bool
is_space_id text = is_space_name text || is_space_number text
