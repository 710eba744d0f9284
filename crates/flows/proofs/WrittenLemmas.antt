-- Lines are read back: steps, blocks and counts, one behind the other.
use Rattle.std.proofs.Common.{◌≡◌, ℕ, zero, suc, ◌+◌, ◌-◌, ◌^◌, ◌<◌, ◌≤◌, ℤ, Bool, true, false, ◌==◌, List, [], ◌∷◌, ◌++◌, length, if◌then◌else◌, refl, sym, ap, ◌∙◌, arith}
use Rattle.std.specs.List.{AllByRecursion}
use Rattle.std.specs.Fmt.{decimal, signed_decimal}
use Rattle.std.proofs.lemmas.List.{append-nil, append_assoc, length-append}
use Rattle.meaning_paths.specs.Steps.{Step, Point, Add, Call, End}
use Rattle.meaning_paths.specs.Graphs.{BasicBlock}
use Rattle.control_flow.specs.declared.note.ContextNote.{ContextNote}
use Rattle.control_flow.specs.Seen.{the_key}
use Rattle.control_flow.specs.Shown.{shown_block, shown_blocks, shown_blocks_behind, shown_change, shown_counts, shown_note, shown_numbers, shown_step, shown_steps, shown_steps_behind, shown_successors}
use Rattle.flows.specs.declared.wrong.Wrong.TheVariants.{NoClosing, NoComma, NoStep}
use Rattle.flows.specs.Reading.{Reading, Reads, Fails, behind_spaces, mark_at, number_at, reads_on, signed_at}
use Rattle.flows.specs.Steps.{call_at, count_at, is_letter, step_at, step_with}
use Rattle.flows.specs.Lines.{begins_block, begins_number, begins_step, behind_bar, block_at, block_behind, block_with, blocks_at, elements_at, elements_from, ended, line_with, note_at, note_count_at, note_with, right_there, steps_at, successors_at}
use Rattle.flows.specs.Written.{IsCount, IsKept, IsKeptBlock, IsNumber, IsToken, LinesAreReadBack}
use Rattle.flows.proofs.ElementLemmas.{one-more}
use Rattle.flows.proofs.NumeralLemmas.{EndsNumber, begins-decimal, change-ends, change-read, count-read, count-stays, digit-goes, digit-stays, number-read}

-- Elements, of which each but the first one stands behind a mark

-- what stands behind an element, where another one follows
pub record Follows (goes_on : List ℕ → Bool) (onward : List ℕ → List ℕ) (Ends : List ℕ → Type 0) (text next : List ℕ) : Type 0 where
  pub goes : goes_on (behind_spaces text) ≡ true
  pub there : onward (behind_spaces text) ≡ next
  pub ends : Ends text

module _ {X : Type 0} (element : List ℕ → Reading X) (goes_on : List ℕ → Bool) (onward left : List ℕ → List ℕ) (shown : X → List ℕ) (behind : List X → List ℕ)
    (Kept : X → Type 0) (Ends : List ℕ → Type 0)
    (reads : (one : X) (rest : List ℕ) → Kept one → Ends rest → element (shown one ++ rest) ≡ Reads one (left rest))
    (tidy : (rest : List ℕ) → behind_spaces (left rest) ≡ behind_spaces rest)
    (empty : behind [] ≡ [])
    (follows : (one : X) (others : List X) (rest : List ℕ) → Kept one → Follows goes_on onward Ends (behind (one ∷ others) ++ rest) (shown one ++ (behind others ++ rest)))
    (long : (others : List X) → length others ≤ length (behind others)) where
  from-read : (turns : ℕ) (before : List X) (one : X) (others : List X) (rest : List ℕ) → length others < turns → Kept one → AllByRecursion Kept others → Ends rest
      → goes_on (behind_spaces rest) ≡ false
      → elements_from element goes_on onward turns before (shown one ++ (behind others ++ rest)) ≡ Reads (before ++ one ∷ others) (behind_spaces rest)
  from-read zero before one others rest enough kept all ends stop = absurd (omega (arith, enough))
  from-read (suc turns) before one [] rest enough kept all ends stop =
      ap (λ (tail : List ℕ). elements_from element goes_on onward (suc turns) before (shown one ++ (tail ++ rest))) empty
      ∙ one-more element goes_on onward turns before (shown one ++ rest) one (left rest) false (reads one rest kept ends) (ap goes_on (tidy rest) ∙ stop)
      ∙ ap (Reads (before ++ one ∷ [])) (tidy rest)
  from-read (suc turns) before one (next ∷ others) rest enough kept all ends stop =
      let tail = behind (next ∷ others) ++ rest in
      let on = follows next others rest all.0 in
      one-more element goes_on onward turns before (shown one ++ tail) one (left tail) true (reads one tail kept on.ends) (ap goes_on (tidy tail) ∙ on.goes)
      ∙ ap (elements_from element goes_on onward turns (before ++ one ∷ [])) (ap onward (tidy tail) ∙ on.there)
      ∙ from-read turns (before ++ one ∷ []) next others rest (omega (arith, enough)) all.0 all.1 ends stop
      ∙ ap (λ (read : List X). Reads read (behind_spaces rest)) (append_assoc before (one ∷ []) (next ∷ others))

  pub elements-read : (one : X) (others : List X) (rest : List ℕ) → Kept one → AllByRecursion Kept others → Ends rest → goes_on (behind_spaces rest) ≡ false
      → elements_at element goes_on onward (shown one ++ (behind others ++ rest)) ≡ Reads (one ∷ others) (behind_spaces rest)
  elements-read one others rest kept all ends stop =
      from-read (1 + length (shown one ++ (behind others ++ rest))) [] one others rest
      (omega (arith, long others, length-append (shown one) (behind others ++ rest), length-append (behind others) rest)) kept all ends stop

-- Steps

letter-read : (letter token : ℕ) (rest : List ℕ) → is_letter letter ≡ true → IsToken token → EndsNumber rest → step_at (letter ∷ (decimal token ++ rest)) ≡ step_with letter token rest
letter-read letter token rest is small ends =
    ap
    (λ test. if test then reads_on (number_at (2 ^ 32 - 1) (decimal token ++ rest)) (λ token behind. step_with letter token behind) else Fails NoStep (1 + length (decimal token ++ rest))) is
    ∙ ap (λ found. reads_on found (λ token behind. step_with letter token behind))
    (number-read (2 ^ 32 - 1) token rest (omega (arith, small)) (omega (arith, small)) ends)

counts-read : (token : ℕ) (enters leaves : ℤ) (rest : List ℕ) → IsCount enters → IsCount leaves
    → call_at token (40 ∷ (signed_decimal enters ++ (44 ∷ (signed_decimal leaves ++ (41 ∷ rest))))) ≡ Reads (Call token the_key enters leaves) rest
counts-read token enters leaves rest small small_too =
    ap
    (λ found. reads_on found
    (λ enters comma. reads_on (count_at 44 NoComma comma) (λ leaves last. reads_on (mark_at 41 NoClosing last) (λ _ rest. Reads (Call token the_key enters leaves) rest))))
    (count-read enters (44 ∷ (signed_decimal leaves ++ (41 ∷ rest))) small refl)
    ∙ ap
    (λ found. reads_on found (λ leaves last. reads_on (mark_at 41 NoClosing last) (λ _ rest. Reads (Call token the_key enters leaves) rest)))
    (count-read leaves (41 ∷ rest) small_too refl)

counts-apart : (enters leaves : ℤ) (rest : List ℕ)
    → shown_counts enters leaves ++ rest ≡ 40 ∷ (signed_decimal enters ++ (44 ∷ (signed_decimal leaves ++ (41 ∷ rest))))
counts-apart enters leaves rest =
    ap (λ (tail : List ℕ). 40 ∷ tail)
    (append_assoc ((signed_decimal enters ++ (44 ∷ [])) ++ signed_decimal leaves) (41 ∷ []) rest
    ∙ append_assoc (signed_decimal enters ++ (44 ∷ [])) (signed_decimal leaves) (41 ∷ rest)
    ∙ append_assoc (signed_decimal enters) (44 ∷ []) (signed_decimal leaves ++ (41 ∷ rest)))

step-read : (step : Step) (rest : List ℕ) → IsKept step → EndsNumber rest → step_at (shown_step step ++ rest) ≡ Reads step rest
step-read (Point token false) rest kept ends = letter-read 80 token rest refl kept ends
step-read (Point token true) rest kept ends = letter-read 77 token rest refl kept ends
step-read (Add token key by) rest kept ends =
    ap (λ (tail : List ℕ). step_at (65 ∷ tail)) (append_assoc (decimal token) (shown_change by) rest)
    ∙ letter-read 65 token (shown_change by ++ rest) refl kept.0 (change-ends by rest)
    ∙ ap (λ found. reads_on found (λ by rest. Reads (Add token the_key by) rest)) (change-read by rest kept.2 ends)
    ∙ ap (λ key. Reads (Add token key by) rest) (sym kept.1)
step-read (Call token key enters leaves) rest kept ends =
    ap (λ (tail : List ℕ). step_at (67 ∷ tail)) (append_assoc (decimal token) (shown_counts enters leaves) rest)
    ∙ letter-read 67 token (shown_counts enters leaves ++ rest) refl kept.0 refl
    ∙ ap (call_at token) (counts-apart enters leaves rest)
    ∙ counts-read token enters leaves rest kept.2 kept.3
    ∙ ap (λ key. Reads (Call token key enters leaves) rest) (sym kept.1)
step-read (End token) rest kept ends = letter-read 69 token rest refl kept ends

-- a step begins with its letter
step-stays : (step : Step) (rest : List ℕ) → behind_spaces (shown_step step ++ rest) ≡ shown_step step ++ rest
step-stays (Point token false) rest = refl
step-stays (Point token true) rest = refl
step-stays (Add token key by) rest = refl
step-stays (Call token key enters leaves) rest = refl
step-stays (End token) rest = refl

step-begins : (step : Step) (rest : List ℕ) → begins_step (shown_step step ++ rest) ≡ true
step-begins (Point token false) rest = refl
step-begins (Point token true) rest = refl
step-begins (Add token key by) rest = refl
step-begins (Call token key enters leaves) rest = refl
step-begins (End token) rest = refl

steps-at-step : (step : Step) (rest : List ℕ) → steps_at (shown_step step ++ rest) ≡ elements_at step_at begins_step right_there (shown_step step ++ rest)
steps-at-step (Point token false) rest = refl
steps-at-step (Point token true) rest = refl
steps-at-step (Add token key by) rest = refl
steps-at-step (Call token key enters leaves) rest = refl
steps-at-step (End token) rest = refl

steps-long : (steps : List Step) → length steps ≤ length (shown_steps_behind steps)
steps-long [] = omega arith
steps-long (step ∷ steps) = omega (arith, steps-long steps, length-append (shown_step step) (shown_steps_behind steps))

steps-follow : (step : Step) (steps : List Step) (rest : List ℕ) → IsKept step
    → Follows begins_step right_there EndsNumber (shown_steps_behind (step ∷ steps) ++ rest) (shown_step step ++ (shown_steps_behind steps ++ rest))
steps-follow step steps rest kept =
    let same = append_assoc (shown_step step) (shown_steps_behind steps) rest in
    let there = ap behind_spaces same ∙ step-stays step (shown_steps_behind steps ++ rest) in
    record { goes = ap begins_step there ∙ step-begins step (shown_steps_behind steps ++ rest); there = there; ends = refl }

steps-read : (steps : List Step) (rest : List ℕ) → AllByRecursion IsKept steps → EndsNumber rest → begins_step (behind_spaces rest) ≡ false
    → steps_at (shown_steps steps ++ rest) ≡ Reads steps (behind_spaces rest)
steps-read [] rest all ends stop = refl
steps-read (step ∷ steps) rest all ends stop =
    ap steps_at (append_assoc (shown_step step) (shown_steps_behind steps) rest)
    ∙ steps-at-step step (shown_steps_behind steps ++ rest)
    ∙ elements-read step_at begins_step right_there (λ rest. rest) shown_step shown_steps_behind IsKept EndsNumber step-read (λ rest. refl) refl steps-follow steps-long
    step steps rest all.0 all.1 ends stop

-- Successors

numbers-long : (numbers : List ℕ) → length numbers ≤ length (shown_numbers numbers)
numbers-long [] = omega arith
numbers-long (number ∷ numbers) = omega (arith, numbers-long numbers, length-append (decimal number) (shown_numbers numbers))

numbers-there : (number : ℕ) (numbers : List ℕ) (rest : List ℕ) → IsNumber number
    → behind_spaces (shown_numbers (number ∷ numbers) ++ rest) ≡ decimal number ++ (shown_numbers numbers ++ rest)
numbers-there number numbers rest small =
    ap behind_spaces (append_assoc (decimal number) (shown_numbers numbers) rest)
    ∙ digit-stays (decimal number ++ (shown_numbers numbers ++ rest)) (begins-decimal number (shown_numbers numbers ++ rest) (omega (arith, small)))

numbers-follow : (number : ℕ) (numbers : List ℕ) (rest : List ℕ) → IsNumber number
    → Follows begins_number right_there EndsNumber (shown_numbers (number ∷ numbers) ++ rest) (decimal number ++ (shown_numbers numbers ++ rest))
numbers-follow number numbers rest small =
    let there = numbers-there number numbers rest small in
    record {
      goes = ap begins_number there
          ∙ digit-goes (decimal number ++ (shown_numbers numbers ++ rest)) (begins-decimal number (shown_numbers numbers ++ rest) (omega (arith, small)));
      there = there;
      ends = refl;
    }

successors-read : (number : ℕ) (numbers : List ℕ) (rest : List ℕ) → IsNumber number → AllByRecursion IsNumber numbers → EndsNumber rest → begins_number (behind_spaces rest) ≡ false
    → successors_at (behind_spaces (shown_numbers (number ∷ numbers) ++ rest)) ≡ Reads (number ∷ numbers) (behind_spaces rest)
successors-read number numbers rest small all ends stop =
    ap successors_at (numbers-there number numbers rest small)
    ∙ elements-read (number_at (2 ^ 30 - 1)) begins_number right_there (λ rest. rest) decimal shown_numbers IsNumber EndsNumber
    (λ one rest small ends. number-read (2 ^ 30 - 1) one rest (omega (arith, small)) (omega (arith, small)) ends) (λ rest. refl) refl numbers-follow numbers-long
    number numbers rest small all ends stop

-- Blocks

-- another block stands there, or the counts
pub data EndsBlock : List ℕ → Type 0 where
  at_bar : (rest : List ℕ) → EndsBlock (32 ∷ 124 ∷ rest)
  at_counts : (rest : List ℕ) → EndsBlock (32 ∷ 59 ∷ rest)

block-ends : (rest : List ℕ) → EndsBlock rest → EndsNumber rest × (begins_step (behind_spaces rest) ≡ false) × (begins_number (behind_spaces rest) ≡ false)
block-ends rest (at_bar others) = (refl, refl, refl)
block-ends rest (at_counts others) = (refl, refl, refl)

no-successors : (steps : List Step) (rest : List ℕ) → EndsBlock rest → block_behind steps (behind_spaces rest) ≡ Reads (block_with steps []) (behind_spaces rest)
no-successors steps rest (at_bar others) = refl
no-successors steps rest (at_counts others) = refl

block-read : (block : BasicBlock) (rest : List ℕ) → IsKeptBlock block → EndsBlock rest → block_at (shown_block block ++ rest) ≡ Reads block (behind_spaces rest)
block-read block rest kept ends =
    ap block_at (append_assoc (shown_steps block.steps) (shown_successors block.successors) rest) ∙ by block.successors kept.1
  where
    ending : EndsNumber rest × (begins_step (behind_spaces rest) ≡ false) × (begins_number (behind_spaces rest) ≡ false)
    ending = block-ends rest ends

    by : (successors : List ℕ) → AllByRecursion IsNumber successors
        → block_at (shown_steps block.steps ++ (shown_successors successors ++ rest)) ≡ Reads (block_with block.steps successors) (behind_spaces rest)
    by [] all =
        ap (λ found. reads_on found block_behind) (steps-read block.steps rest kept.0 ending.0 ending.1) ∙ no-successors block.steps rest ends
    by (number ∷ numbers) all =
        ap (λ found. reads_on found block_behind) (steps-read block.steps (32 ∷ 62 ∷ (shown_numbers (number ∷ numbers) ++ rest)) kept.0 refl refl)
        ∙ ap (λ found. reads_on found (λ successors behind. Reads (block_with block.steps successors) behind))
        (successors-read number numbers rest all.0 all.1 ending.0 ending.2)

blocks-long : (blocks : List BasicBlock) → length blocks ≤ length (shown_blocks_behind blocks)
blocks-long [] = omega arith
blocks-long (block ∷ blocks) = omega (arith, blocks-long blocks, length-append (shown_block block) (shown_blocks_behind blocks))

spaces-once : (text : List ℕ) → behind_spaces (behind_spaces text) ≡ behind_spaces text
spaces-once [] = refl
spaces-once (byte ∷ rest) = by (byte == 32) refl (spaces-once rest)
  where
    by : (test : Bool) → (byte == 32) ≡ test → behind_spaces (behind_spaces rest) ≡ behind_spaces rest
        → behind_spaces (if test then behind_spaces rest else byte ∷ rest) ≡ (if test then behind_spaces rest else byte ∷ rest)
    by true is later = later
    by false isnt later = ap (λ test. if test then behind_spaces rest else byte ∷ rest) isnt

-- a block begins with its steps
block-stays : (block : BasicBlock) (rest : List ℕ) → behind_spaces (shown_block block ++ rest) ≡ shown_block block ++ rest
block-stays block rest = by block.steps
  where
    by : (steps : List Step) → behind_spaces ((shown_steps steps ++ shown_successors block.successors) ++ rest) ≡ (shown_steps steps ++ shown_successors block.successors) ++ rest
    by [] = refl
    by (step ∷ steps) =
        let apart : ((shown_step step ++ shown_steps_behind steps) ++ shown_successors block.successors) ++ rest
        ≡ shown_step step ++ (shown_steps_behind steps ++ (shown_successors block.successors ++ rest)) =
        append_assoc (shown_step step ++ shown_steps_behind steps) (shown_successors block.successors) rest
        ∙ append_assoc (shown_step step) (shown_steps_behind steps) (shown_successors block.successors ++ rest) in
        ap behind_spaces apart ∙ step-stays step (shown_steps_behind steps ++ (shown_successors block.successors ++ rest)) ∙ sym apart

blocks-follow : (block : BasicBlock) (blocks : List BasicBlock) (rest : List ℕ) → IsKeptBlock block
    → Follows begins_block behind_bar EndsBlock (shown_blocks_behind (block ∷ blocks) ++ rest) (shown_block block ++ (shown_blocks_behind blocks ++ rest))
blocks-follow block blocks rest kept =
    record {
      goes = refl;
      there = ap behind_spaces (append_assoc (shown_block block) (shown_blocks_behind blocks) rest) ∙ block-stays block (shown_blocks_behind blocks ++ rest);
      ends = at_bar _;
    }

blocks-read : (block : BasicBlock) (blocks : List BasicBlock) (rest : List ℕ) → IsKeptBlock block → AllByRecursion IsKeptBlock blocks → EndsBlock rest
    → begins_block (behind_spaces rest) ≡ false
    → blocks_at (behind_spaces (shown_blocks (block ∷ blocks) ++ rest)) ≡ Reads (block ∷ blocks) (behind_spaces rest)
blocks-read block blocks rest kept all ends stop =
    ap (λ (text : List ℕ). blocks_at (behind_spaces text)) (append_assoc (shown_block block) (shown_blocks_behind blocks) rest)
    ∙ ap blocks_at (block-stays block (shown_blocks_behind blocks ++ rest))
    ∙ elements-read block_at begins_block behind_bar behind_spaces shown_block shown_blocks_behind IsKeptBlock EndsBlock block-read spaces-once refl blocks-follow blocks-long
    block blocks rest kept all ends stop

-- Lines

-- what is read on behind the first count
abbrev pub counted : Reading ℤ → Reading ContextNote
counted enters =
    reads_on enters (λ count comma. reads_on (note_count_at 44 NoComma comma) (λ leaves last. ended (note_with count leaves) (behind_spaces last)))

note-read : (note : ContextNote) → IsCount note.enters → IsCount note.leaves → note_at (behind_spaces (shown_note note)) ≡ Reads note []
note-read note small small_too =
    ap (λ (text : List ℕ). counted (signed_at (behind_spaces text))) (append_assoc (signed_decimal note.enters) (44 ∷ 32 ∷ []) (signed_decimal note.leaves))
    ∙ ap (λ (text : List ℕ). counted (signed_at text)) (count-stays note.enters (44 ∷ 32 ∷ signed_decimal note.leaves) small)
    ∙ ap counted (count-read note.enters (44 ∷ 32 ∷ signed_decimal note.leaves) small refl)
    ∙ ap (λ (text : List ℕ). reads_on (signed_at (behind_spaces text)) (λ leaves last. ended (note_with note.enters leaves) (behind_spaces last)))
    (sym (append-nil (signed_decimal note.leaves)))
    ∙ ap (λ (text : List ℕ). reads_on (signed_at text) (λ leaves last. ended (note_with note.enters leaves) (behind_spaces last))) (count-stays note.leaves [] small_too)
    ∙ ap (λ found. reads_on found (λ leaves last. ended (note_with note.enters leaves) (behind_spaces last))) (count-read note.leaves [] small_too tt)

pub read_back : LinesAreReadBack
read_back [] note kept = absurd (omega (arith, kept.first))
read_back (block ∷ blocks) note kept =
    ap (λ found. reads_on found (λ graph rest. reads_on (note_at rest) (λ note last. Reads (line_with graph note) last)))
    (blocks-read block blocks (shown_note note) kept.blocks.0 kept.blocks.1 (at_counts _) refl)
    ∙ ap (λ found. reads_on found (λ note last. Reads (line_with (block ∷ blocks) note) last)) (note-read note kept.enters kept.leaves)
