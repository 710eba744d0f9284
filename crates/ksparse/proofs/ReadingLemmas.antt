-- The words of a command one by one: what is asked for stays the same from word to word.
use Rattle.std.proofs.Common.{◌≡◌, ℕ, zero, suc, ◌+◌, Bool, true, false, ◌||◌, List, [], ◌∷◌, ◌++◌, Option, Some, None, Result, IfOk, drop, sym, ◌∙◌, ap, refl, append_assoc, append-nil, if◌then◌else◌}
use Rattle.std.specs.Prelude.{is_some, slice_get}
use Rattle.std.proofs.lemmas.List.{drop_more}
use Rattle.std.proofs.lemmas.Result.{IfOk-weaker}
use Rattle.std.proofs.lemmas.Option.{slice_get_within, get_or_from_slice_get}
use Rattle.meaning_answer.specs.Options.{Switch, Word, AsksForTokens, AddsDirectory, AddsLine, Switches, IsOperand, IsStrange, word_of}
use Rattle.vocabulary.specs.declared.class.Class.{Class}
use Rattle.meaning_answer.specs.Requests.{classes_on, request_with, BadWord, Fault, request_of, request_without, is_bad, is_operand, is_expand, first_fault, asks_for_tokens, directories_of, directory_in, command_of, line_in, switches_of, switch_in, operand_in}
use Rattle.ksparse.specs.Reading.{Reading, empty_reading, has_file, taken, requested, reading_behind, request_by, request_behind, begins_with_command, first_file, IsMissing}
use Rattle.ksparse.specs.Words.{IsFaultOf, request_seen}
use Rattle.ksparse.specs.declared.command.Command.{Command}
use Rattle.ksparse.specs.declared.command.WordFault.{WordFault}
use Rattle.ksparse.specs.declared.command.WordFault.TheVariants as faults

module _ (text : List ℕ) (words : List (List ℕ)) (directories : List (List ℕ)) (command : List ℕ) (switches : List Switch) where
  -- a reading with these parts
  abbrev made : Bool → Option (List ℕ) → Reading
  made for_tokens file = record { for_tokens = for_tokens; directories = directories; command = command; switches = switches; file = file }

  -- what a word and those behind it make of it
  abbrev made_behind : Word → Bool → Option (List ℕ) → Reading
  made_behind word for_tokens file =
      record {
        for_tokens = for_tokens || (is_expand word || asks_for_tokens words);
        directories = directories ++ (directory_in word ++ directories_of words);
        command = command ++ (line_in word ++ command_of words);
        switches = switches ++ (switch_in word ++ switches_of words);
        file = first_file file (if is_operand word then Some text else operand_in words);
      }

  taken_behind : (word : Word) (for_tokens : Bool) (file : Option (List ℕ)) → is_bad (is_some file) word ≡ false
      → made_behind word for_tokens file ≡ reading_behind (taken word text (made for_tokens file)) words
  taken_behind AsksForTokens true file good = refl
  taken_behind AsksForTokens false file good = refl
  taken_behind (AddsDirectory directory) for_tokens file good =
      ap (λ (ds : List (List ℕ)). record {
        for_tokens = for_tokens || asks_for_tokens words;
        directories = ds;
        command = command ++ command_of words;
        switches = switches ++ switches_of words;
        file = first_file file (operand_in words);
      }) (sym (append_assoc directories (directory ∷ []) (directories_of words)))
  taken_behind (AddsLine line) for_tokens file good =
      ap (λ (bytes : List ℕ). record {
        for_tokens = for_tokens || asks_for_tokens words;
        directories = directories ++ directories_of words;
        command = bytes;
        switches = switches ++ switches_of words;
        file = first_file file (operand_in words);
      }) (sym (append_assoc command line (command_of words)))
  taken_behind (Switches switch) for_tokens file good =
      ap (λ (ss : List Switch). record {
        for_tokens = for_tokens || asks_for_tokens words;
        directories = directories ++ directories_of words;
        command = command ++ command_of words;
        switches = ss;
        file = first_file file (operand_in words);
      }) (sym (append_assoc switches (switch ∷ []) (switches_of words)))
  taken_behind IsOperand for_tokens None good = refl
  taken_behind IsOperand for_tokens (Some path) good = cc
  taken_behind IsStrange for_tokens file good = cc

  -- where no word is left nothing is added
  nothing_behind : (for_tokens : Bool) (file : Option (List ℕ)) → reading_behind (made for_tokens file) [] ≡ made for_tokens file
  nothing_behind true None = rw (append-nil directories, append-nil command, append-nil switches) refl
  nothing_behind true (Some path) = rw (append-nil directories, append-nil command, append-nil switches) refl
  nothing_behind false None = rw (append-nil directories, append-nil command, append-nil switches) refl
  nothing_behind false (Some path) = rw (append-nil directories, append-nil command, append-nil switches) refl

  -- a word that is allowed is no fault
  fault_behind : (word : Word) (for_tokens : Bool) (file : Option (List ℕ)) (position : ℕ) → is_bad (is_some file) word ≡ false
      → (if is_bad (is_some file) word then Some (record { position = position; word = text }) else first_fault (position + 1) (is_some file || is_operand word) words)
      ≡ first_fault (position + 1) (has_file (taken word text (made for_tokens file))) words
  fault_behind AsksForTokens for_tokens None position good = refl
  fault_behind AsksForTokens for_tokens (Some path) position good = refl
  fault_behind (AddsDirectory directory) for_tokens None position good = refl
  fault_behind (AddsDirectory directory) for_tokens (Some path) position good = refl
  fault_behind (AddsLine line) for_tokens None position good = refl
  fault_behind (AddsLine line) for_tokens (Some path) position good = refl
  fault_behind (Switches switch) for_tokens None position good = refl
  fault_behind (Switches switch) for_tokens (Some path) position good = refl
  fault_behind IsOperand for_tokens None position good = refl
  fault_behind IsOperand for_tokens (Some path) position good = cc
  fault_behind IsStrange for_tokens file position good = cc

module _ (position : ℕ) (reading : Reading) (text : List ℕ) (words : List (List ℕ)) where
  -- a word that is allowed
  good_word : is_bad (has_file reading) (word_of text) ≡ false
      → request_behind position reading (text ∷ words) ≡ request_behind (position + 1) (taken (word_of text) text reading) words
  good_word good =
      let fault = fault_behind text words reading.directories reading.command reading.switches (word_of text) reading.for_tokens reading.file position good in
      let behind = taken_behind text words reading.directories reading.command reading.switches (word_of text) reading.for_tokens reading.file good in
      ap (λ (found : Option Fault). request_by found (reading_behind reading (text ∷ words))) fault
      ∙ ap (λ (r : Reading). request_by (first_fault (position + 1) (has_file (taken (word_of text) text reading)) words) r) behind

  -- and one that isn't
  bad_word : is_bad (has_file reading) (word_of text) ≡ true → request_behind position reading (text ∷ words) ≡ BadWord position text
  bad_word bad =
      ap (λ (b : Bool). request_by (if b then Some (record { position = position; word = text }) else first_fault (position + 1) (has_file reading || is_operand (word_of text)) words)
      (reading_behind reading (text ∷ words))) bad

-- what a reading asks for, by its parts
pub asked_by :
    (reading : Reading) (for_tokens : Bool) (directories : List (List ℕ)) (command : List ℕ) (classes : List Class) (path : List ℕ)
    → reading.for_tokens ≡ for_tokens → directories ≡ reading.directories → command ≡ reading.command → classes ≡ classes_on reading.switches
    → reading.file ≡ Some path
    → request_with for_tokens (record { preprocessing = record { directories = directories; command = command }; classes = classes }) (Some path)
    ≡ requested reading
asked_by reading for_tokens directories command classes path asks looked told on there = rw (← asks, looked, told, on, there) refl

-- a word of the list stands before those that are left
pub word_left : (words : List (List ℕ)) (position : ℕ) (text : List ℕ) → Some text ≡ slice_get words position → drop position words ≡ text ∷ drop (position + 1) words
word_left words position text is =
    drop_more words position text (slice_get_within words position text (sym is))
    ∙ ap (λ (t : List ℕ). t ∷ drop (position + 1) words) (get_or_from_slice_get words position text text (sym is))

-- The loop over the words of a command

module _ (words : List (List ℕ)) where
  same_request : (fault : Option Fault) → request_by fault (reading_behind empty_reading words) ≡ request_without fault words
  same_request None = refl
  same_request (Some fault) = refl

-- before the first word
pub words_begin : (words : List (List ℕ)) → begins_with_command words ≡ false → request_behind 0 empty_reading words ≡ request_of words
words_begin [] other = refl
words_begin (word ∷ words) other = rw other (same_request (word ∷ words) (first_fault 0 false (word ∷ words)))

pub command_first : (words : List (List ℕ)) → begins_with_command words ≡ true → IsFaultOf words (faults.BadWord 0)
command_first [] is = cc
command_first (word ∷ words) is = (word, rw is refl, refl)

-- where there is no word at a position, none is left from there on
pub none_left : (words : List (List ℕ)) (position : ℕ) → None ≡ slice_get words position → drop position words ≡ []
none_left [] zero none = refl
none_left [] (suc position) none = refl
none_left (word ∷ words) zero none = cc
none_left (word ∷ words) (suc position) none = none_left words position none

module _ (words : List (List ℕ)) (position : ℕ) (reading : Reading) (asked : request_behind position reading (drop position words) ≡ request_of words) where
  module _ (text : List ℕ) (there : Some text ≡ slice_get words position) where
    pub words_go_on : is_bad (has_file reading) (word_of text) ≡ false → request_behind (position + 1) (taken (word_of text) text reading) (drop (position + 1) words) ≡ request_of words
    words_go_on good =
        sym (ap (request_behind position reading) (word_left words position text there) ∙ good_word position reading text (drop (position + 1) words) good) ∙ asked

    pub word_at_fault : is_bad (has_file reading) (word_of text) ≡ true → IsFaultOf words (faults.BadWord position)
    word_at_fault bad =
        (text, sym asked ∙ ap (request_behind position reading) (word_left words position text there) ∙ bad_word position reading text (drop (position + 1) words) bad, sym there)

  -- behind the last word
  pub words_end : drop position words ≡ [] → requested reading ≡ request_of words
  words_end none =
      sym (ap (request_behind position reading) none ∙ ap requested (nothing_behind [] [] reading.directories reading.command reading.switches reading.for_tokens reading.file)) ∙ asked

  pub command_right :
      (result : Result Command WordFault) → drop position words ≡ [] → IfOk result (λ command. request_seen command ≡ requested reading)
      → IfOk result (λ command. request_seen command ≡ request_of words)
  command_right result none right =
      IfOk-weaker result (λ command. request_seen command ≡ requested reading) (λ command. request_seen command ≡ request_of words)
      (λ command is. is ∙ words_end none) right

  pub missing_file : (fault : WordFault) → drop position words ≡ [] → IsMissing reading fault → IsFaultOf words fault
  missing_file (faults.BadWord other) none missing = absurd missing
  missing_file faults.MissingFile none missing = sym (words_end none) ∙ missing
  missing_file faults.Memory none missing = tt
