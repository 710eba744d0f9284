-- How a cursor is seen: as the logical text that is left behind it.
use Rattle.std.specs.Prelude.{ℕ, List}
use Rattle.meaning_text.specs.Logical.{SourceByte, bytes_of}
use Rattle.c_tokens.specs.declared.cursor.Cursor.{Cursor}
use Rattle.c_tokens.specs.Remaining.{remaining_at}

abbrev pub remaining : Cursor → List SourceByte
remaining cursor = remaining_at cursor.line_is_open cursor.place cursor.bytes.now

-- its bytes without their places
abbrev pub ahead : Cursor → List ℕ
ahead cursor = bytes_of (remaining cursor)
