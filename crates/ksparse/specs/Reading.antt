-- What was read of a command's words, and what the rest of them makes of it.
use Rattle.std.specs.Prelude.{◌≡◌, ℕ, Bool, true, false, ◌||◌, List, [], ◌∷◌, ◌++◌, Option, Some, None, is_some}
use Rattle.meaning_answer.specs.Options.{Switch, Word, AsksForTokens, AddsDirectory, AddsLine, Switches, IsOperand, IsStrange, is_command}
use Rattle.meaning_answer.specs.Requests.{Options, Request, MissingFile, Fault, request_with, classes_on, first_fault, asks_for_tokens, directories_of, command_of, switches_of, operand_in, BadWord}
use Rattle.ksparse.specs.Options.{switches_seen}
use Rattle.ksparse.specs.declared.reading.Reading as code
use Rattle.ksparse.specs.declared.command.WordFault.{WordFault}
use Rattle.ksparse.specs.declared.command.WordFault.TheVariants as faults

-- what was set, and the operand if there was one
pub record Reading : Type 0 where
  pub for_tokens : Bool
  pub directories : List (List ℕ)
  pub command : List ℕ
  pub switches : List Switch
  pub file : Option (List ℕ)

abbrev pub reading_seen : code.Reading → Reading
reading_seen reading =
    record {
      for_tokens = reading.for_tokens;
      directories = reading.dirs;
      command = reading.commands.items;
      switches = switches_seen reading.switches.items;
      file = reading.file;
    }

abbrev pub empty_reading : Reading
empty_reading = record { for_tokens = false; directories = []; command = []; switches = []; file = None }

abbrev pub has_file : Reading → Bool
has_file reading = is_some reading.file

abbrev pub with_directory : List ℕ → Reading → Reading
with_directory directory reading = record reading { directories = reading.directories ++ directory ∷ [] }

abbrev pub with_line : List ℕ → Reading → Reading
with_line text reading = record reading { command = reading.command ++ text }

abbrev pub with_file : List ℕ → Reading → Reading
with_file path reading = record reading { file = Some path }

-- behind a word with this text
abbrev pub taken : Word → List ℕ → Reading → Reading
taken AsksForTokens text reading = record reading { for_tokens = true }
taken (AddsDirectory directory) text reading = with_directory directory reading
taken (AddsLine line) text reading = with_line line reading
taken (Switches switch) text reading = record reading { switches = reading.switches ++ switch ∷ [] }
taken IsOperand text reading = with_file text reading
taken IsStrange text reading = reading

abbrev pub options_read : Reading → Options
options_read reading =
    record {
      preprocessing = record { directories = reading.directories; command = reading.command };
      classes = classes_on reading.switches;
    }

-- what is asked for, where no word is left
abbrev pub requested : Reading → Request
requested reading = request_with reading.for_tokens (options_read reading) reading.file

-- the operand is missing, where memory isn't
abbrev pub IsMissing : Reading → WordFault → Type 0
IsMissing reading (faults.BadWord position) = ⊥
IsMissing reading faults.MissingFile = requested reading ≡ MissingFile
IsMissing reading faults.Memory = Unit {0}

-- with all that the words that are left set
abbrev pub first_file : Option (List ℕ) → Option (List ℕ) → Option (List ℕ)
first_file None found = found
first_file (Some path) found = Some path

abbrev pub reading_behind : Reading → List (List ℕ) → Reading
reading_behind reading words =
    record {
      for_tokens = reading.for_tokens || asks_for_tokens words;
      directories = reading.directories ++ directories_of words;
      command = reading.command ++ command_of words;
      switches = reading.switches ++ switches_of words;
      file = first_file reading.file (operand_in words);
    }

abbrev pub request_by : Option Fault → Reading → Request
request_by (Some fault) reading = BadWord fault.position fault.word
request_by None reading = requested reading

-- what is asked for, where these words are left from this position on
abbrev pub request_behind : ℕ → Reading → List (List ℕ) → Request
request_behind position reading words = request_by (first_fault position (has_file reading) words) (reading_behind reading words)

-- the first word selects another command
abbrev pub begins_with_command : List (List ℕ) → Bool
begins_with_command [] = false
begins_with_command (word ∷ words) = is_command word
