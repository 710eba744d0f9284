-- What is left of a text, of which each byte knows its place.
use Rattle.std.specs.Prelude.{ℕ, suc, Bool, false, not, ◌==◌, ◌&&◌, List, [], ◌∷◌, Option, Some, None, if◌then◌else◌}
use Rattle.std.specs.List.{list_all}
use Rattle.meaning_text.specs.Bytes.{backslash, new_line, is_word_byte}
use Rattle.meaning_text.specs.Logical.{SourceByte, logical_from}
use Rattle.sparse_model.specs.declared.place.Place.{Place}
use Rattle.c_tokens.specs.Seen.{at_of}

-- a backslash and a new-line, which join a line to the next
abbrev pub begins_splice : List ℕ → Bool
begins_splice [] = false
begins_splice (b ∷ []) = false
begins_splice (b ∷ c ∷ bytes) = b == backslash && c == new_line

-- no backslash and no new-line is among the bytes
abbrev pub is_plain : List ℕ → Bool
is_plain bytes = list_all (λ b. not (b == backslash) && not (b == new_line)) bytes

-- how many of the bytes are letters, underscores and digits, before another one
abbrev pub plain_word_length : List ℕ → ℕ
plain_word_length [] = 0
plain_word_length (b ∷ bytes) = if is_word_byte b then suc (plain_word_length bytes) else 0

-- the logical text of bytes that begin at this place, in a line that is open or not
unfoldable pub remaining_at : Bool → Place → List ℕ → List SourceByte
remaining_at line_is_open place bytes = logical_from line_is_open (at_of place) bytes

-- the first byte
abbrev pub first_of : List ℕ → Option ℕ
first_of [] = None
first_of (b ∷ text) = Some b
