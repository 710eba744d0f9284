-- Character constants, string literals and header names: when a whole spelling is one (C11 6.4.4.4, 6.4.5,
-- 6.4.7). What a literal is worth is not asked here.
use Rattle.std.specs.Prelude.{ℕ, Bool, true, false, not, ◌==◌, ◌&&◌, ◌||◌, List, [], ◌∷◌, drop, if◌then◌else◌}
use Rattle.meaning_text.specs.Bytes.{new_line, double_quote, single_quote, digit_8, less, greater, lower_u, backslash, is_prefix_letter}

-- the text has no bytes
abbrev pub is_empty : List ℕ → Bool
is_empty [] = true
is_empty (b ∷ text) = false

-- What stands behind an opening quotation mark: bytes of one line, up to the first such mark that has no
-- backslash before it. A backslash takes any byte of the line with it.
abbrev pub ends_quoted : (quote : ℕ) → (behind_backslash : Bool) → List ℕ → Bool
ends_quoted quote escaped [] = false
ends_quoted quote escaped (b ∷ text) =
    not (b == new_line)
    && (if b == quote && not escaped then is_empty text
    else ends_quoted quote (b == backslash && not escaped) text)

-- the text opens with this quotation mark, and ends with the one that closes it
abbrev pub is_quoted : ℕ → List ℕ → Bool
is_quoted quote [] = false
is_quoted quote (b ∷ text) = b == quote && ends_quoted quote false text

-- how long a prefix of a character constant would be: `L`, `u` or `U` (6.4.4.4)
abbrev pub character_prefix : List ℕ → ℕ
character_prefix [] = 0
character_prefix (b ∷ text) = if is_prefix_letter b then 1 else 0

-- and one of a string literal, which may also be `u8` (6.4.5)
abbrev pub string_prefix : List ℕ → ℕ
string_prefix [] = 0
string_prefix (b ∷ []) = character_prefix (b ∷ [])
string_prefix (b ∷ c ∷ text) = if b == lower_u && c == digit_8 then 2 else character_prefix (b ∷ c ∷ text)

-- a character constant, also one without a character
abbrev pub is_character : List ℕ → Bool
is_character text = is_quoted single_quote (drop (character_prefix text) text)

-- a string literal, also an empty one (6.4.5)
abbrev pub is_string : List ℕ → Bool
is_string text = is_quoted double_quote (drop (string_prefix text) text)

-- what stands behind the opening of a header name: bytes of one line, up to the first that closes it
abbrev pub ends_name : (closing : ℕ) → List ℕ → Bool
ends_name closing [] = false
ends_name closing (b ∷ text) =
    not (b == new_line) && (if b == closing then is_empty text else ends_name closing text)

-- at least one byte stands before the closing one
abbrev pub closes_name : ℕ → List ℕ → Bool
closes_name closing [] = false
closes_name closing (b ∷ text) = not (b == closing) && ends_name closing (b ∷ text)

-- between `<` and `>` or between double quotation marks; a backslash is a byte like any other
abbrev pub is_header_name : List ℕ → Bool
is_header_name [] = false
is_header_name (b ∷ text) =
    (b == less && closes_name greater text) || (b == double_quote && closes_name double_quote text)
