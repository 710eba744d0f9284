-- How a token is read by what decides on its class.
use Rattle.std.specs.Prelude.{ℕ, List}
use Rattle.meaning_literals.specs.Integers.{integer_of}
use Rattle.meaning_literals.specs.Quoted.{char_of, string_of}
use Rattle.meaning_grammar.specs.Words.{Reading, read_as, word_reading}
use Rattle.meaning_grammar.specs.Terminals.{number_reading, character_reading, string_reading}
use Rattle.c_terminals.specs.declared.kinds.Deciding.{Deciding}
use Rattle.c_terminals.specs.declared.kinds.Deciding.TheVariants as ways

abbrev pub read_by : Deciding → List ℕ → Reading
read_by ways.Spelling text = word_reading text
read_by ways.Number text = number_reading (integer_of text)
read_by ways.Character text = character_reading (char_of text)
read_by ways.String text = string_reading (string_of text)
read_by (ways.Kind class_) text = read_as class_
