-- Places in files: the number of a file, and in it a line and a column of bytes, both counted from 1.
use Rattle.std.specs.Prelude.{ℕ, ◌==◌, ◌+◌, if◌then◌else◌}
use Rattle.meaning_text.specs.Bytes.{new_line}

-- a place: the number of a file, a line and a column
pub record At : Type 0 where
  pub file : ℕ
  pub line : ℕ
  pub column : ℕ

-- the number of the checked file; number 0 is that of the file `<command>`
abbrev pub main_file : ℕ
main_file = 1

-- where the text of this file begins
abbrev pub start_of : ℕ → At
start_of file = record { file = file; line = 1; column = 1 }

-- the place behind a byte that stands here
abbrev pub behind_byte : At → ℕ → At
behind_byte at b =
    if b == new_line then record { file = at.file; line = at.line + 1; column = 1 }
    else record { file = at.file; line = at.line; column = at.column + 1 }
