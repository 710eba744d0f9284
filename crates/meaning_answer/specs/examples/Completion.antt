-- Worked examples: what completes a command, with no word, with two and with more, and what doesn't.
use Rattle.std.specs.Prelude.{ℕ, List, [], ◌∷◌, codes}
use Rattle.meaning_outside.specs.Loads.{Loaded, Missing}
use Rattle.meaning_answer.specs.Reply.{Ending, Clean, Refused, Usage, NoMemory}
use Rattle.meaning_answer.specs.Delivery.{Sinks, Completes}

-- the words of a command, each a list of bytes
abbrev pub Command : Type 0
Command = List (List ℕ)

-- sinks that had taken nothing before, and have taken this on `err`
abbrev pub taken : List ℕ → Sinks
taken err = record { old_out = []; new_out = []; old_err = []; new_err = err }

-- no count of faults rose, and the command loaded nothing
abbrev pub CompletesAtOnce : Command → Ending → Sinks → Type 0
CompletesAtOnce words ending sinks = Completes words [] ⊥ ending sinks

abbrev pub two_paths : Command
two_paths = codes "t.c" ∷ codes "u.c" ∷ []

abbrev pub three_words : Command
three_words = codes "t.c" ∷ codes "-a" ∷ codes "-x" ∷ []

-- the one file that the words name was loaded, and isn't there
abbrev pub no_file : List Loaded
no_file = record { path = codes "t.c"; most = 8388608; given = Missing } ∷ []

pub record CompletionExamples : Type 0 where
  pub no_word : CompletesAtOnce [] Usage (taken (codes "ksparse: missing file\n"))
  pub no_word_in_silence : CompletesAtOnce [] Clean (taken []) → ⊥
  pub no_word_with_silent_usage : CompletesAtOnce [] Usage (taken []) → ⊥
  pub no_word_without_memory : CompletesAtOnce [] NoMemory (taken [])
  pub one_word : Completes (codes "t.c" ∷ []) no_file ⊥ Refused (taken (codes "ksparse: error[1]: no such file: t.c\n"))
  pub one_word_in_silence : Completes (codes "t.c" ∷ []) no_file ⊥ Clean (taken []) → ⊥
  pub two_words : CompletesAtOnce two_paths Usage (taken (codes "ksparse: bad word: u.c\n"))
  pub two_words_in_silence : CompletesAtOnce two_paths Clean (taken []) → ⊥
  pub two_words_without_memory : CompletesAtOnce two_paths NoMemory (taken [])
  pub three_words_tell_the_first_bad_one : CompletesAtOnce three_words Usage (taken (codes "ksparse: bad word: -a\n"))
  pub three_words_tell_another : CompletesAtOnce three_words Usage (taken (codes "ksparse: bad word: -x\n")) → ⊥
  -- where a count rose nothing is asked
  pub behind_a_fault : (words : Command) (loads : List Loaded) (ending : Ending) (sinks : Sinks) → Completes words loads (Unit {0}) ending sinks
