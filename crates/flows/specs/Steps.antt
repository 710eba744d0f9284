-- Steps as they are written: a letter, the number of a token, and what it adds, or the counts of a call.
use Rattle.std.specs.Prelude.{ℕ, ◌+◌, ◌-◌, ◌^◌, ℤ, Bool, true, false, ◌||◌, ◌==◌, List, [], ◌∷◌, length, if◌then◌else◌}
use Rattle.meaning_paths.specs.Steps.{Step, Point, Add, Call, End}
use Rattle.control_flow.specs.Seen.{the_key}
use Rattle.flows.specs.declared.wrong.Wrong.{Wrong}
use Rattle.flows.specs.declared.wrong.Wrong.TheVariants.{NoStep, NoOpening, NoComma, NoClosing}
use Rattle.flows.specs.Reading.{Reading, Reads, Fails, reads_on, mark_at, number_at, signed_at}

abbrev pub change_at : (token : ℕ) → List ℕ → Reading Step
change_at token text = reads_on (signed_at text) (λ by rest. Reads (Add token the_key by) rest)

-- a count behind this mark
abbrev pub count_at : (mark : ℕ) → Wrong → List ℕ → Reading ℤ
count_at mark wrong text = reads_on (mark_at mark wrong text) (λ _ rest. signed_at rest)

-- the counts of a call, in parentheses
abbrev pub call_at : (token : ℕ) → List ℕ → Reading Step
call_at token text =
    reads_on (count_at 40 NoOpening text)
    (λ enters comma. reads_on (count_at 44 NoComma comma) (λ leaves last. reads_on (mark_at 41 NoClosing last) (λ _ rest. Reads (Call token the_key enters leaves) rest)))

-- P, M, A, C or E
abbrev pub is_letter : ℕ → Bool
is_letter byte = byte == 80 || byte == 77 || byte == 65 || byte == 67 || byte == 69

-- what stands behind the letter of a step and its token
abbrev pub step_with : (letter token : ℕ) → List ℕ → Reading Step
step_with letter token text =
    if letter == 80 then Reads (Point token false) text
    else if letter == 77 then Reads (Point token true) text
    else if letter == 65 then change_at token text
    else if letter == 67 then call_at token text
    else Reads (End token) text

abbrev pub step_at : List ℕ → Reading Step
step_at [] = Fails NoStep 0
step_at (letter ∷ rest) =
    if is_letter letter then reads_on (number_at (2 ^ 32 - 1) rest) (λ token behind. step_with letter token behind) else Fails NoStep (1 + length rest)
