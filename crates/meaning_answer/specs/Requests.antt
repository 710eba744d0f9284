-- What the words of a command ask for.
use Rattle.std.specs.Prelude.{ℕ, ◌+◌, Bool, true, false, ◌||◌, List, [], ◌∷◌, ◌++◌, Option, Some, None, if◌then◌else◌}
use Rattle.std.specs.List.{filter}
use Rattle.vocabulary.specs.declared.class.Class.{Class}
use Rattle.vocabulary.specs.Rules.{all_classes, is_on_by_default}
use Rattle.meaning_preprocessing.specs.Unit as unit
use Rattle.meaning_answer.specs.Options.{Switch, Word, AsksForTokens, AddsDirectory, AddsLine, Switches, IsOperand, IsStrange, word_of, is_command, is_class}

-- What the options of a command set.
pub record Options : Type 0 where
  -- the directories of the search, and the text of the file `<command>`
  pub preprocessing : unit.Options
  -- the classes that are on, each once
  pub classes : List Class

-- what the words ask for, or why they are refused
pub data Request : Type 0 where
  -- the first word that no rule allows, and where it stands among the words, from 0
  BadWord : (position : ℕ) (word : List ℕ) → Request
  -- an operand is wanting
  MissingFile : Request
  -- a file is to be checked
  Check : (options : Options) (path : List ℕ) → Request
  -- the tokens of a file are asked for
  Expand : (options : Options) (path : List ℕ) → Request

-- What all words set together

abbrev pub directory_in : Word → List (List ℕ)
directory_in (AddsDirectory directory) = directory ∷ []
directory_in word = []

-- the directories, in the order of the words
abbrev pub directories_of : List (List ℕ) → List (List ℕ)
directories_of [] = []
directories_of (word ∷ words) = directory_in (word_of word) ++ directories_of words

abbrev pub line_in : Word → List ℕ
line_in (AddsLine text) = text
line_in word = []

-- the lines of `<command>`, in the order of the words
abbrev pub command_of : List (List ℕ) → List ℕ
command_of [] = []
command_of (word ∷ words) = line_in (word_of word) ++ command_of words

abbrev pub switch_in : Word → List Switch
switch_in (Switches switch) = switch ∷ []
switch_in word = []

abbrev pub switches_of : List (List ℕ) → List Switch
switches_of [] = []
switches_of (word ∷ words) = switch_in (word_of word) ++ switches_of words

-- a class that was so is so behind these switches: the last one of the class decides
abbrev pub is_on_behind : Bool → List Switch → Class → Bool
is_on_behind on [] class_ = on
is_on_behind on (switch ∷ switches) class_ = is_on_behind (if is_class class_ switch.class_ then switch.on else on) switches class_

-- the class is on
abbrev pub is_switched_on : List Switch → Class → Bool
is_switched_on switches class_ = is_on_behind (is_on_by_default class_) switches class_

-- the classes that are on
abbrev pub classes_on : List Switch → List Class
classes_on switches = filter (is_switched_on switches) all_classes

abbrev pub is_expand : Word → Bool
is_expand AsksForTokens = true
is_expand word = false

-- the tokens are asked for
abbrev pub asks_for_tokens : List (List ℕ) → Bool
asks_for_tokens [] = false
asks_for_tokens (word ∷ words) = is_expand (word_of word) || asks_for_tokens words

-- The operand, and words at fault

abbrev pub is_operand : Word → Bool
is_operand IsOperand = true
is_operand word = false

-- the first operand
abbrev pub operand_in : List (List ℕ) → Option (List ℕ)
operand_in [] = None
operand_in (word ∷ words) = if is_operand (word_of word) then Some word else operand_in words

-- a word that no rule allows, behind an operand or not: there is one operand
abbrev pub is_bad : Bool → Word → Bool
is_bad behind_operand IsStrange = true
is_bad behind_operand IsOperand = behind_operand
is_bad behind_operand word = false

-- a word at fault, and where it stands
pub record Fault : Type 0 where
  pub position : ℕ
  pub word : List ℕ

-- the first among words that stand from this position on
abbrev pub first_fault : ℕ → Bool → List (List ℕ) → Option Fault
first_fault position behind_operand [] = None
first_fault position behind_operand (word ∷ words) =
    if is_bad behind_operand (word_of word) then Some (record { position = position; word = word })
    else first_fault (position + 1) (behind_operand || is_operand (word_of word)) words

-- The request

abbrev pub options_of : List (List ℕ) → Options
options_of words =
    record {
      preprocessing = record { directories = directories_of words; command = command_of words };
      classes = classes_on (switches_of words);
    }

-- what is asked of a file
abbrev pub request_with : Bool → Options → Option (List ℕ) → Request
request_with for_tokens options None = MissingFile
request_with for_tokens options (Some path) = if for_tokens then Expand options path else Check options path

-- what is asked, where no word is at fault
abbrev pub request_without : Option Fault → List (List ℕ) → Request
request_without (Some fault) words = BadWord fault.position fault.word
request_without None words = request_with (asks_for_tokens words) (options_of words) (operand_in words)

-- One operand and options in any order. A word that selects another command stands first, and none of these is built.
abbrev pub request_of : List (List ℕ) → Request
request_of [] = MissingFile
request_of (word ∷ words) = if is_command word then BadWord 0 word else request_without (first_fault 0 false (word ∷ words)) (word ∷ words)
