-- Runs of bytes that pass a test, at the front of a text.
use Rattle.std.proofs.Common.{◌≡◌, ℕ, suc, zero, ◌+◌, ◌-◌, ◌≤◌, Bool, true, false, not, List, [], ◌∷◌, ◌++◌, length, take, drop, refl, sym, ap, ◌∙◌, arith, ◌⊎◌, inl, inr, ⊎_elim, append_assoc, take-append-drop, length-append}
use Rattle.std.specs.List.{list_all, prefix_len}
use Rattle.meaning_literals.specs.Grammar.{stops}
use Rattle.std.proofs.Math.Seq.{take-append_seam, take-append-add, drop-append_seam}
use Rattle.std.proofs.lemmas.Bool.{and_parts, and_from, cases_Bool}
use Rattle.std.proofs.lemmas.List.{append-nil, length-take}

-- the text is a run and what follows it
pub record IsRun (test : ℕ → Bool) (text run rest : List ℕ) : Type 0 where
  pub split : text ≡ run ++ rest
  pub passes : list_all test run ≡ true
  pub ends : stops test rest ≡ true
  pub count : prefix_len test text ≡ length run

pub prefix_len-passes : (test : ℕ → Bool) (b : ℕ) (text : List ℕ) → test b ≡ true → prefix_len test (b ∷ text) ≡ 1 + prefix_len test text
prefix_len-passes test b text passes = rw passes refl

prefix_len-fails : (test : ℕ → Bool) (b : ℕ) (text : List ℕ) → test b ≡ false → prefix_len test (b ∷ text) ≡ 0
prefix_len-fails test b text fails = rw fails refl

-- a byte that passes makes a run longer
longer_run : (test : ℕ → Bool) (b : ℕ) (text run rest : List ℕ) → test b ≡ true → IsRun test text run rest → IsRun test (b ∷ text) (b ∷ run) rest
longer_run test b text run rest passes is =
    record {
      split = ap (λ others. b ∷ others) is.split;
      passes = and_from _ _ passes is.passes;
      ends = is.ends;
      count = omega (arith, prefix_len-passes test b text passes, is.count);
    }

not_true : (b : Bool) → not b ≡ true → b ≡ false
not_true true same = sym same
not_true false same = refl

-- each text has a run
pub run_of : (test : ℕ → Bool) (text : List ℕ) → (run rest : List ℕ) × IsRun test text run rest
run_of test [] = ([], [], record { split = refl; passes = refl; ends = refl; count = refl })
run_of test (b ∷ text) =
    ⊎_elim
    (λ passes. let inner = run_of test text in (b ∷ inner.0, inner.1, longer_run test b text inner.0 inner.1 passes inner.2))
    (λ fails. ([], b ∷ text, record { split = refl; passes = refl; ends = ap not fails; count = prefix_len-fails test b text fails }))
    (cases_Bool (test b))

-- bytes that pass, before a rest that stops, are a run
pub IsRun-append : (test : ℕ → Bool) (run rest : List ℕ) → list_all test run ≡ true → stops test rest ≡ true → IsRun test (run ++ rest) run rest
IsRun-append test [] [] passes ends = record { split = refl; passes = refl; ends = refl; count = refl }
IsRun-append test [] (b ∷ rest) passes ends =
    record { split = refl; passes = refl; ends = ends; count = prefix_len-fails test b rest (not_true (test b) ends) }
IsRun-append test (b ∷ run) rest passes ends =
    let parts = and_parts (test b) _ passes in
    longer_run test b (run ++ rest) run rest parts.0 (IsRun-append test run rest parts.1 ends)

-- the bytes that `take_while` gives are those of the run
pub take-run : (test : ℕ → Bool) (text run rest : List ℕ) → IsRun test text run rest → take (prefix_len test text) text ≡ run
take-run test text run rest is =
    ap (λ count. take count text) is.count ∙ ap (take (length run)) is.split ∙ take-append_seam run rest

-- what follows it is what is left behind so many bytes
pub drop-run : (test : ℕ → Bool) (text run rest : List ℕ) → IsRun test text run rest → drop (length run) text ≡ rest
drop-run test text run rest is = ap (drop (length run)) is.split ∙ drop-append_seam run rest

-- a run of three bytes at most: of three, or before a rest that stops
pub record IsShortRun (test : ℕ → Bool) (text run rest : List ℕ) : Type 0 where
  pub split : text ≡ run ++ rest
  pub passes : list_all test run ≡ true
  pub few : length run ≤ 3
  pub ends : (length run ≡ 3) ⊎ (stops test rest ≡ true)
  pub front : take (prefix_len test (take 3 text)) (take 3 text) ≡ run

-- the run of the first three bytes is short, where bytes follow it there
short_inside :
    (test : ℕ → Bool) (text run : List ℕ) (b : ℕ) (rest : List ℕ) → IsRun test (take 3 text) run (b ∷ rest) → IsShortRun test text run (b ∷ rest ++ drop 3 text)
short_inside test text run b rest is =
    record {
      split = sym (take-append-drop 3 text) ∙ ap (λ front. front ++ drop 3 text) is.split ∙ append_assoc run (b ∷ rest) (drop 3 text);
      passes = is.passes;
      few = omega (arith, ap length is.split, length-append run (b ∷ rest), length-take 3 text);
      ends = inr is.ends;
      front = take-run test (take 3 text) run (b ∷ rest) is;
    }

-- the first three bytes are three, or all of the text
short_ends : (test : ℕ → Bool) (text run : List ℕ) → take 3 text ≡ run → (length run ≡ 3) ⊎ (stops test (drop 3 text) ≡ true)
short_ends test [] run whole = inr refl
short_ends test (a ∷ []) run whole = inr refl
short_ends test (a ∷ b ∷ []) run whole = inr refl
short_ends test (a ∷ b ∷ c ∷ text) run whole = inl (ap length (sym whole))

-- and where none do
short_whole : (test : ℕ → Bool) (text run : List ℕ) → IsRun test (take 3 text) run [] → IsShortRun test text run (drop 3 text)
short_whole test text run is =
    let whole : take 3 text ≡ run = is.split ∙ append-nil run in
    record {
      split = sym (take-append-drop 3 text) ∙ ap (λ front. front ++ drop 3 text) whole;
      passes = is.passes;
      few = omega (arith, ap length whole, length-take 3 text);
      ends = short_ends test text run whole;
      front = take-run test (take 3 text) run [] is;
    }

-- each text has a short run
short_from : (test : ℕ → Bool) (text run rest : List ℕ) → IsRun test (take 3 text) run rest → (found others : List ℕ) × IsShortRun test text found others
short_from test text run [] is = (run, drop 3 text, short_whole test text run is)
short_from test text run (b ∷ rest) is = (run, b ∷ rest ++ drop 3 text, short_inside test text run b rest is)

pub short_run_of : (test : ℕ → Bool) (text : List ℕ) → (run rest : List ℕ) × IsShortRun test text run rest
short_run_of test text = let first = run_of test (take 3 text) in short_from test text first.0 first.1 first.2

-- a front of a text that stops does so too
stops-take : (test : ℕ → Bool) (n : ℕ) (text : List ℕ) → stops test text ≡ true → stops test (take n text) ≡ true
stops-take test zero text ends = refl
stops-take test (suc n) [] ends = refl
stops-take test (suc n) (b ∷ text) ends = ends

-- what the first three bytes have behind a short run stops
short_stops : (test : ℕ → Bool) (run rest : List ℕ) → (length run ≡ 3) ⊎ (stops test rest ≡ true) → stops test (take (3 - length run) rest) ≡ true
short_stops test run rest ends =
    ⊎_elim
    (λ full. ap (λ n. stops test (take (3 - n) rest)) full)
    (λ stop. stops-take test (3 - length run) rest stop)
    ends

-- three bytes at most that pass, of three or before a rest that stops, are a short run
pub IsShortRun-append :
    (test : ℕ → Bool) (run rest : List ℕ) → list_all test run ≡ true → length run ≤ 3 → (length run ≡ 3) ⊎ (stops test rest ≡ true)
    → IsShortRun test (run ++ rest) run rest
IsShortRun-append test run rest passes few ends =
    let inside = IsRun-append test run (take (3 - length run) rest) passes (short_stops test run rest ends) in
    let all : length run + (3 - length run) ≡ 3 = omega arith in
    let front : take 3 (run ++ rest) ≡ run ++ take (3 - length run) rest = ap (λ n. take n (run ++ rest)) (sym all) ∙ take-append-add run rest (3 - length run) in
    record {
      split = refl;
      passes = passes;
      few = few;
      ends = ends;
      front = ap (λ text. take (prefix_len test text) text) front ∙ take-run test _ run _ inside;
    }

-- a run is no shorter than any front of the text that passes
pub prefix_len-ge : (test : ℕ → Bool) (front rest : List ℕ) → list_all test front ≡ true → length front ≤ prefix_len test (front ++ rest)
prefix_len-ge test [] rest passes = omega arith
prefix_len-ge test (b ∷ front) rest passes =
    let parts = and_parts (test b) _ passes in
    omega (arith, prefix_len-passes test b (front ++ rest) parts.0, prefix_len-ge test front rest parts.1)

-- a front of bytes that pass passes
pub list_all-take : (test : ℕ → Bool) (n : ℕ) (text : List ℕ) → list_all test text ≡ true → list_all test (take n text) ≡ true
list_all-take test zero text passes = refl
list_all-take test (suc n) [] passes = refl
list_all-take test (suc n) (b ∷ text) passes =
    let parts = and_parts (test b) _ passes in
    and_from _ _ parts.0 (list_all-take test n text parts.1)
