-- A flow and its counts, as a line writes them.
use Rattle.std.specs.Prelude.{ℕ, zero, suc, ◌+◌, ◌-◌, ◌^◌, ℤ, Bool, false, not, ◌||◌, ◌==◌, List, [], ◌∷◌, ◌++◌, length, if◌then◌else◌}
use Rattle.meaning_paths.specs.Steps.{Step}
use Rattle.meaning_paths.specs.Graphs.{BasicBlock}
use Rattle.control_flow.specs.declared.note.ContextNote.{ContextNote}
use Rattle.flows.specs.declared.wrong.Wrong.{Wrong}
use Rattle.flows.specs.declared.wrong.Wrong.TheVariants.{NoStep, NoComma, NoCounts, NoEnd}
use Rattle.flows.specs.Reading.{Reading, Reads, Fails, reads_on, behind_spaces, mark_at, number_at, signed_at}
use Rattle.flows.specs.Steps.{step_at}

-- Elements, one behind another, as long as the text behind one and its spaces goes on; the next one begins onward of there. There
-- are at most as many as bytes, so that one turn more than that is enough.
abbrev pub elements_from : {X : Type 0} → (element : List ℕ → Reading X) → (goes_on : List ℕ → Bool) → (onward : List ℕ → List ℕ) → (turns : ℕ) → (before : List X) → List ℕ
    → Reading (List X)
elements_from element goes_on onward zero before text = Fails NoStep (length text)
elements_from element goes_on onward (suc turns) before text =
    reads_on (element text)
    (λ one rest.
    if goes_on (behind_spaces rest)
    then elements_from element goes_on onward turns (before ++ one ∷ []) (onward (behind_spaces rest))
    else Reads (before ++ one ∷ []) (behind_spaces rest))

abbrev pub elements_at : {X : Type 0} → (element : List ℕ → Reading X) → (goes_on : List ℕ → Bool) → (onward : List ℕ → List ℕ) → List ℕ → Reading (List X)
elements_at element goes_on onward text = elements_from element goes_on onward (1 + length text) [] text

abbrev pub right_there : List ℕ → List ℕ
right_there text = text

-- no >, | or ; stands there
abbrev pub begins_step : List ℕ → Bool
begins_step [] = false
begins_step (byte ∷ rest) = not (byte == 62 || byte == 124 || byte == 59)

-- the steps of a block, or - for none
abbrev pub steps_at : List ℕ → Reading (List Step)
steps_at [] = elements_at step_at begins_step right_there []
steps_at (byte ∷ rest) = if byte == 45 then Reads [] (behind_spaces rest) else elements_at step_at begins_step right_there (byte ∷ rest)

-- no | or ; stands there
abbrev pub begins_number : List ℕ → Bool
begins_number [] = false
begins_number (byte ∷ rest) = not (byte == 124 || byte == 59)

-- the numbers of successors, each below 2^30
abbrev pub successors_at : List ℕ → Reading (List ℕ)
successors_at text = elements_at (number_at (2 ^ 30 - 1)) begins_number right_there text

abbrev pub block_with : List Step → List ℕ → BasicBlock
block_with steps successors = record { steps = steps; successors = successors }

-- > and successors, or none
abbrev pub block_behind : List Step → List ℕ → Reading BasicBlock
block_behind steps [] = Reads (block_with steps []) []
block_behind steps (byte ∷ rest) =
    if byte == 62 then reads_on (successors_at (behind_spaces rest)) (λ successors behind. Reads (block_with steps successors) behind)
    else Reads (block_with steps []) (byte ∷ rest)

abbrev pub block_at : List ℕ → Reading BasicBlock
block_at text = reads_on (steps_at text) block_behind

-- | stands there, and a block behind it and its spaces
abbrev pub begins_block : List ℕ → Bool
begins_block [] = false
begins_block (byte ∷ rest) = byte == 124

abbrev pub behind_bar : List ℕ → List ℕ
behind_bar [] = []
behind_bar (byte ∷ rest) = behind_spaces rest

abbrev pub blocks_at : List ℕ → Reading (List BasicBlock)
blocks_at text = elements_at block_at begins_block behind_bar text

abbrev pub note_with : (enters leaves : ℤ) → ContextNote
note_with enters leaves = record { enters = enters; leaves = leaves }

-- nothing stands there any more
abbrev pub ended : ContextNote → List ℕ → Reading ContextNote
ended note text = if length text == 0 then Reads note [] else Fails NoEnd (length text)

-- a count behind this mark, around which spaces may stand
abbrev pub note_count_at : (mark : ℕ) → Wrong → List ℕ → Reading ℤ
note_count_at mark wrong text = reads_on (mark_at mark wrong (behind_spaces text)) (λ _ rest. signed_at (behind_spaces rest))

-- the counts to enter and to leave with, behind a ; and a comma, which end a line
abbrev pub note_at : List ℕ → Reading ContextNote
note_at text =
    reads_on (note_count_at 59 NoCounts text)
    (λ enters comma. reads_on (note_count_at 44 NoComma comma) (λ leaves last. ended (note_with enters leaves) (behind_spaces last)))

-- What a line says: a graph, and the counts.
pub record FlowLine : Type 0 where
  pub graph : List BasicBlock
  pub note : ContextNote

abbrev pub line_with : List BasicBlock → ContextNote → FlowLine
line_with graph note = record { graph = graph; note = note }

abbrev pub line_at : List ℕ → Reading FlowLine
line_at text = reads_on (blocks_at (behind_spaces text)) (λ graph rest. reads_on (note_at rest) (λ note last. Reads (line_with graph note) last))

-- The front of a text

-- what stands before the first byte that is this one, or all
abbrev pub before_byte : (mark : ℕ) → List ℕ → List ℕ
before_byte mark [] = []
before_byte mark (byte ∷ rest) = if byte == mark then [] else byte ∷ before_byte mark rest

-- what stands behind it, or nothing
abbrev pub behind_byte : (mark : ℕ) → List ℕ → List ℕ
behind_byte mark [] = []
behind_byte mark (byte ∷ rest) = if byte == mark then rest else behind_byte mark rest

-- the text from the block of this number on, which stands behind as many |
abbrev pub from_block : (number : ℕ) → List ℕ → List ℕ
from_block zero text = behind_spaces text
from_block (suc number) text = from_block number (behind_byte 124 text)
