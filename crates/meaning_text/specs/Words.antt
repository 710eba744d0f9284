-- Identifiers and preprocessing numbers: when a whole spelling is one (C11 6.4.2.1, 6.4.8).
use Rattle.std.specs.Prelude.{ℕ, zero, suc, pred, Bool, true, false, ◌==◌, ◌&&◌, ◌||◌, nat_lt, List, [], ◌∷◌, if◌then◌else◌}
use Rattle.std.specs.Char.{is_ascii_digit, is_ascii_hexdigit}
use Rattle.meaning_text.specs.Bytes.{dot, upper_u, lower_u, backslash, is_nondigit, is_word_byte, is_exponent, is_sign}

-- the text begins with so many hexadecimal digits
abbrev pub begins_hexadecimal : ℕ → List ℕ → Bool
begins_hexadecimal zero text = true
begins_hexadecimal (suc count) [] = false
begins_hexadecimal (suc count) (b ∷ text) = is_ascii_hexdigit b && begins_hexadecimal count text

-- the length of the universal character name with which the text begins, 0 if there is none (6.4.3): `\u` with
-- four hexadecimal digits or `\U` with eight; which character it names is not asked
abbrev pub universal_length : List ℕ → ℕ
universal_length [] = 0
universal_length (b ∷ []) = 0
universal_length (b ∷ c ∷ text) =
    if b == backslash && c == lower_u && begins_hexadecimal 4 text then 6
    else (if b == backslash && c == upper_u && begins_hexadecimal 8 text then 10 else 0)

-- the text begins with a universal character name (6.4.3)
abbrev pub begins_universal : List ℕ → Bool
begins_universal text = nat_lt 0 (universal_length text)

-- An identifier goes on with a letter, an underscore, a digit or a universal character name. What stands behind
-- the backslash of such a name goes on with an identifier too, so that each byte can be asked by itself.
abbrev pub word_goes_on : List ℕ → Bool
word_goes_on [] = false
word_goes_on (b ∷ text) = is_word_byte b || begins_universal (b ∷ text)

-- each byte of the text goes on with an identifier
abbrev pub is_word : List ℕ → Bool
is_word [] = true
is_word (b ∷ text) = word_goes_on (b ∷ text) && is_word text

-- and begins with any of these but a digit
abbrev pub begins_identifier : List ℕ → Bool
begins_identifier [] = false
begins_identifier (b ∷ text) = is_nondigit b || begins_universal (b ∷ text)

-- the text is an identifier (6.4.2.1)
abbrev pub is_identifier : List ℕ → Bool
is_identifier text = begins_identifier text && is_word text

-- the text begins with a digit
abbrev pub begins_digit : List ℕ → Bool
begins_digit [] = false
begins_digit (b ∷ text) = is_ascii_digit b

-- a preprocessing number begins with a digit, or with a dot and a digit
abbrev pub begins_number : List ℕ → Bool
begins_number [] = false
begins_number (b ∷ text) = is_ascii_digit b || (b == dot && begins_digit text)

-- It goes on with what goes on with an identifier, with a dot, and with a sign where one may stand.
abbrev pub number_goes_on : (sign_may_stand : Bool) → List ℕ → Bool
number_goes_on sign [] = false
number_goes_on sign (b ∷ text) = word_goes_on (b ∷ text) || b == dot || (sign && is_sign b)

-- how many bytes of a universal character name are left behind the first byte, if so many were left before it
abbrev pub universal_left : ℕ → List ℕ → ℕ
universal_left left text = if begins_universal text then pred (universal_length text) else pred left

-- a sign may stand behind `e`, `E`, `p` and `P` that are no digits of a universal character name
abbrev pub sign_behind : ℕ → ℕ → Bool
sign_behind left b = left == 0 && is_exponent b

-- the bytes of a number behind its first
abbrev pub is_number_tail : (sign_may_stand : Bool) → (universal_left : ℕ) → List ℕ → Bool
is_number_tail sign left [] = true
is_number_tail sign left (b ∷ text) =
    number_goes_on sign (b ∷ text) && is_number_tail (sign_behind left b) (universal_left left (b ∷ text)) text

-- the text is a preprocessing number (6.4.8)
abbrev pub is_number : List ℕ → Bool
is_number [] = false
is_number (b ∷ text) = begins_number (b ∷ text) && is_number_tail false 0 text
