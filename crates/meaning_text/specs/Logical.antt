-- The logical text of a file: its lines after those that end with a backslash are joined to the next
-- (C11 5.1.1.2 p1, phase 2). Each byte keeps its place in the file.
use Rattle.std.specs.Prelude.{ℕ, Bool, true, false, not, ◌==◌, ◌&&◌, List, [], ◌∷◌, map}
use Rattle.meaning_text.specs.Bytes.{backslash, new_line}
use Rattle.meaning_text.specs.Places.{At, start_of, behind_byte}

-- a byte, and where it stands in its file
pub record SourceByte : Type 0 where
  pub byte : ℕ
  pub at : At

-- the bytes of a text, without their places
abbrev pub bytes_of : List SourceByte → List ℕ
bytes_of text = map (λ (b : SourceByte). b.byte) text

-- the new-line that a text without a last one is given
abbrev pub closing_line : Bool → At → List SourceByte
closing_line false at = []
closing_line true at = record { byte = new_line; at = at } ∷ []

-- Bytes that begin at this place without each pair of a backslash and a new-line, and then, where the byte that
-- is kept last is no new-line, a new-line behind them. The line is open where a byte is kept before them that is
-- no new-line.
abbrev pub logical_from : (line_is_open : Bool) → At → List ℕ → List SourceByte
logical_from open_line at [] = closing_line open_line at
logical_from open_line at (b ∷ []) =
    record { byte = b; at = at } ∷ closing_line (not (b == new_line)) (behind_byte at b)
logical_from open_line at (b ∷ c ∷ bytes) =
    elim (b == backslash && c == new_line) [
      | true ↦ logical_from open_line (behind_byte (behind_byte at b) c) bytes
      | false ↦ record { byte = b; at = at } ∷ logical_from (not (b == new_line)) (behind_byte at b) (c ∷ bytes)
    ]

-- the logical text of the file with this number
abbrev pub logical_text : ℕ → List ℕ → List SourceByte
logical_text file bytes = logical_from false (start_of file) bytes
