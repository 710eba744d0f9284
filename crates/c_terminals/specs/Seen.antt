-- How the values of this crate are seen by the definitions of `meaning_grammar`.
use Rattle.std.specs.Prelude.{ℕ, List, Option, Some, None, if◌then◌else◌}
use Rattle.std.specs.Str.{bytes_eq}
use Rattle.std.specs.Option.{option_map}
use Rattle.meaning_grammar.specs.Words.{WordRow, word_reading, extension}
use Rattle.meaning_grammar.specs.Words as words
use Rattle.meaning_grammar.specs.Terminals as grammar
use Rattle.c_tokens.specs.Seen.{text_of}
use Rattle.c_terminals.specs.declared.reading.Reading.{Reading}
use Rattle.c_terminals.specs.declared.terminal.Terminal.{Terminal}
use Rattle.c_terminals.specs.declared.rows.WordRow as rows

abbrev pub reading_seen : Reading → words.Reading
reading_seen reading = record { class_ = reading.class; refusal = reading.refusal }

-- a row of the table of words
abbrev pub row_seen : rows.WordRow → WordRow
row_seen row = record { spelling = row.spelling.now; reading = record { class_ = row.class; refusal = row.refusal } }

-- a terminal, through a table of spellings
abbrev pub terminal_of : List (List ℕ) → Terminal → grammar.Terminal
terminal_of names terminal =
    record { index = terminal.index; class_ = terminal.class; text = text_of names terminal.name; refusal = terminal.refusal }

-- how a spelling is read where it is that of a word; `__extension__` is read over
abbrev pub word_entry : List ℕ → Option words.Reading
word_entry text = if bytes_eq text extension then None else Some (word_reading text)

abbrev pub entry_seen : Option Reading → Option words.Reading
entry_seen entry = option_map reading_seen entry
