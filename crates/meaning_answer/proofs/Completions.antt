-- A command is complete where the answer that the plain program computes was taken whole, and only there.
use Rattle.std.proofs.Common.{◌≡◌, ◌≢◌, ℕ, List, [], ◌∷◌, ◌⊎◌, Option, Some, None, ap, subst, refl, inl, inr, codes, get_or, arith}
use Rattle.std.specs.Cmp.Lexicographic.{slice_cmp}
use Rattle.std.specs.FinMap as map
use Rattle.std.specs.Fmt.{digits}
use Rattle.std.specs.Ordering.{nat_cmp}
use Rattle.meaning_outside.specs.Files.{FileMap, file_at}
use Rattle.meaning_outside.specs.Loads.{Loaded, AgreesWith}
use Rattle.vocabulary.specs.Rules.{default_classes}
use Rattle.meaning_text.specs.Fronts.{front_of}
use Rattle.meaning_macros.specs.Expansion.{within, expansion}
use Rattle.meaning_conditions.specs.plain.Reading.{answer_of}
use Rattle.meaning_preprocessing.specs.State.{and_then}
use Rattle.meaning_preprocessing.specs.Unit.{Setting, PreprocessedUnit, capped, command_piece, first_state, main_piece_of, preprocessed, reader, unit_end, unit_limits}
use Rattle.meaning_preprocessing.specs.examples.Rows.{plain_options}
use Rattle.meaning_answer.specs.Reply.{Ending, Refused, Usage, NoMemory, Reply, line}
use Rattle.meaning_answer.specs.Delivery.{Sinks, Delivers, Completes}
use Rattle.meaning_answer.specs.plain.Replying.{end_reply, reply_to}
use Rattle.meaning_answer.specs.examples.Completion.{taken, CompletionExamples, no_file, two_paths, three_words}
use Rattle.meaning_answer.proofs.Replies.{answers_are_unique, plain_answers_are_right}

-- it is complete with a reply that writes nothing to `out`, whichever map agrees with the loads
completed : (words : List (List ℕ)) (loads : List Loaded) (ending : Ending) (err : List ℕ)
    → ((files : FileMap) → AgreesWith files loads → reply_to 0 words files ≡ Some (record { out = []; err = err; ending = ending }))
    → Completes words loads ⊥ ending (taken err)
completed words loads ending err is files agrees reply answers none =
    let taken_reply : Reply = record { out = []; err = err; ending = ending } in
    let same : taken_reply ≡ reply = answers_are_unique words files taken_reply reply (plain_answers_are_right 0 words files taken_reply (is files agrees)) answers in
    inr (ap (λ (r : Reply). r.ending) same, subst (λ (r : Reply). Delivers r (taken err)) same (record { out = refl; err = refl }))

-- and not where, over one such map, the ending or what was taken is another
incomplete : (words : List (List ℕ)) (loads : List Loaded) (files : FileMap) (reply : Reply) (ending : Ending) (sinks : Sinks) → AgreesWith files loads
    → reply_to 0 words files ≡ Some reply → ((ending ≡ NoMemory) ⊎ ((ending ≡ reply.ending) × Delivers reply sinks) → ⊥)
    → Completes words loads ⊥ ending sinks → ⊥
incomplete words loads files reply ending sinks agrees is differs complete =
    differs (complete files agrees reply (plain_answers_are_right 0 words files reply is) (λ none. none))

-- another ending than want of memory and that of the answer
another_ending : {ending wanted : Ending} {Taken : Type 0} → ending ≢ NoMemory → ending ≢ wanted → (ending ≡ NoMemory) ⊎ ((ending ≡ wanted) × Taken) → ⊥
another_ending memory other (inl is) = memory is
another_ending memory other (inr both) = other both.0

-- another text
another_text : {ending wanted : Ending} (reply : Reply) (err : List ℕ) → ending ≢ NoMemory → err ≢ reply.err
    → (ending ≡ NoMemory) ⊎ ((ending ≡ wanted) × Delivers reply (taken err)) → ⊥
another_text reply err memory other (inl is) = memory is
another_text reply err memory other (inr both) = other both.1.err

without_memory : (words : List (List ℕ)) (sinks : Sinks) → Completes words [] ⊥ NoMemory sinks
without_memory words sinks files agrees reply answers none = inl refl

no_files : FileMap
no_files = map.empty

none_there : file_at no_files (codes "t.c") ≡ None
unfolding no_files
none_there = map.get-empty (slice_cmp nat_cmp) (codes "t.c")

-- the lines differ in a letter
line_of_another_word : codes "ksparse: bad word: -x\n" ≢ codes "ksparse: bad word: -a\n"
line_of_another_word is = let letter : 120 ≡ 97 = ap (λ (line : List ℕ). get_or line 20 0) is in omega (arith, letter)

-- the unit of `t.c` in a map, by what is found there
abbrev unit_found : FileMap → Option (List ℕ) → PreprocessedUnit
unit_found files found =
    let setting : Setting = record { options = plain_options; files = file_at files; value = answer_of; limits = unit_limits } in
    let all = capped unit_limits.unit_tokens
    (and_then (command_piece setting (first_state unit_limits (codes "t.c"))) (main_piece_of setting (codes "t.c") found)) in
    record { tokens = all.tokens; end = unit_end all.ending }

-- the reply where it isn't there
missing_reply : (files : FileMap) → file_at files (codes "t.c") ≡ None
    → reply_to 0 (codes "t.c" ∷ []) files ≡ Some (line Refused (codes "ksparse: error[1]: no such file: t.c"))
unfolding preprocessed digits reader expansion within front_of
missing_reply files none =
    ap (λ (found : Option (List ℕ)). let unit = unit_found files found in end_reply 0 default_classes unit.tokens unit.end) none

pub completion_examples : CompletionExamples
unfolding digits
completion_examples = record {
  no_word = completed [] [] _ _ (λ files agrees. refl);
  no_word_in_silence = incomplete [] [] no_files _ _ _ tt refl (another_ending (λ is. cc) (λ is. cc));
  no_word_with_silent_usage = incomplete [] [] no_files _ _ _ tt refl (another_text _ [] (λ is. cc) (λ is. cc));
  no_word_without_memory = without_memory [] (taken []);
  one_word = completed (codes "t.c" ∷ []) no_file _ _ (λ files agrees. missing_reply files agrees.0);
  one_word_in_silence =
      incomplete (codes "t.c" ∷ []) no_file no_files (line Refused (codes "ksparse: error[1]: no such file: t.c")) _ _ (none_there, tt) (missing_reply no_files none_there)
      (another_ending (λ is. cc) (λ is. cc));
  two_words = completed two_paths [] _ _ (λ files agrees. refl);
  two_words_in_silence = incomplete two_paths [] no_files _ _ _ tt refl (another_ending (λ is. cc) (λ is. cc));
  two_words_without_memory = without_memory two_paths (taken []);
  three_words_tell_the_first_bad_one = completed three_words [] _ _ (λ files agrees. refl);
  three_words_tell_another =
      incomplete three_words [] no_files _ _ _ tt refl
      (another_text (line Usage (codes "ksparse: bad word: -a")) (codes "ksparse: bad word: -x\n") (λ is. cc) line_of_another_word);
  behind_a_fault = λ words loads ending sinks files agrees reply answers none. absurd (none tt);
}
