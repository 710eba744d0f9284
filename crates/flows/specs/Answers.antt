-- What is answered for a line, for a text of lines, and for a file.
use Rattle.std.specs.Prelude.{◌≡◌, ℕ, ◌+◌, ◌-◌, ◌<◌, Option, Some, None, List, [], ◌∷◌, ◌++◌, length}
use Rattle.meaning_paths.specs.Graphs.{IsPathOf}
use Rattle.meaning_paths.specs.ContextRules.{IsAnswer}
use Rattle.control_flow.specs.declared.note.ContextAnswer.{ContextAnswer}
use Rattle.control_flow.specs.Seen.{answer_of, the_key}
use Rattle.flows.specs.declared.line.NoLine.{NoLine}
use Rattle.flows.specs.declared.line.NoLine.TheVariants as no_line
use Rattle.flows.specs.declared.wrong.Wrong.{Wrong}
use Rattle.flows.specs.declared.wrong.Fault.{Fault}
use Rattle.flows.specs.declared.wrong.Place.{Place}
use Rattle.flows.specs.Reading.{Reading, Reads, Fails, fault_at}
use Rattle.flows.specs.Lines.{FlowLine, before_byte, behind_byte, from_block, line_at}
use Rattle.flows.specs.Asked.{asked_fault}
use Rattle.flows.specs.Shown.{shown_answer}

-- nothing was read for this reason; want of memory alone is free
abbrev pub IsReadingOf : {X : Type 0} → Reading X → NoLine → Type 0
IsReadingOf reading (no_line.Wrong fault) = reading ≡ Fails fault.wrong fault.left
IsReadingOf reading no_line.NoMemory = Unit {0}

-- what was read was appended, and this stands behind it
abbrev pub IsOneMore : {X : Type 0} → (before after : List X) → Reading X → List ℕ → Type 0
IsOneMore before after (Reads one behind) rest = (after ≡ before ++ one ∷ []) × (behind ≡ rest)
IsOneMore before after (Fails wrong left) rest = ⊥

-- Lines

-- what a graph lacks stands at its block
abbrev pub block_fault_at : (text : List ℕ) → Option (ℕ × Wrong) → Option Fault
block_fault_at text None = None
block_fault_at text (Some found) = Some (fault_at found.1 (length (from_block found.0 text)))

abbrev pub fault_of : (text : List ℕ) → Reading FlowLine → Option Fault
fault_of text (Fails wrong left) = Some (fault_at wrong left)
fault_of text (Reads line rest) = block_fault_at text (asked_fault line.graph line.note.enters)

-- what is wrong with a line, if anything is: it isn't in the notation, or its flow isn't what the walk asks for
abbrev pub line_fault : List ℕ → Option Fault
line_fault text = fault_of text (line_at text)

-- nothing is wrong with what a line says, and this is the rules' answer for its flow and its counts
pub record IsAnswerFor (line : FlowLine) (answer : ContextAnswer) : Type 0 where
  pub asked : asked_fault line.graph line.note.enters ≡ None
  pub answers : IsAnswer (IsPathOf line.graph) the_key line.note.enters line.note.leaves (answer_of answer)

-- the line is in the notation, and this is the answer for what it says
pub record IsAnswerOf (text : List ℕ) (answer : ContextAnswer) : Type 0 where
  pub line : FlowLine
  pub read : line_at text ≡ Reads line []
  pub says : IsAnswerFor line answer

-- the walk doesn't take what the line says
abbrev pub IsFaultFor : (text : List ℕ) (line : FlowLine) → NoLine → Type 0
IsFaultFor text line (no_line.Wrong fault) = block_fault_at text (asked_fault line.graph line.note.enters) ≡ Some fault
IsFaultFor text line no_line.NoMemory = Unit {0}

abbrev pub IsFaultOf : (text : List ℕ) → NoLine → Type 0
IsFaultOf text (no_line.Wrong fault) = line_fault text ≡ Some fault
IsFaultOf text no_line.NoMemory = Unit {0}

-- Texts

-- the first line without its new-line, and what stands behind that
abbrev pub first_line : List ℕ → List ℕ
first_line text = before_byte 10 text

abbrev pub behind_line : List ℕ → List ℕ
behind_line text = behind_byte 10 text

abbrev pub place_of : (number : ℕ) (line : List ℕ) → Fault → Place
place_of number line fault = record { line = number; column = (length line - fault.left) + 1; wrong = fault.wrong }

-- The answers to the lines of a text, the first of which has this number, stand behind what was shown before: to all of them, or
-- to those before the first one that has none.
pub data Shows : (number : ℕ) → (before text after : List ℕ) → Option Place → Type 0 where
  ends : {number : ℕ} {before text after : List ℕ} {stop : Option Place} → text ≡ [] → after ≡ before → stop ≡ None → Shows number before text after stop
  stops : {number : ℕ} {before text after : List ℕ} {stop : Option Place} {fault : Fault} → 0 < length text → line_fault (first_line text) ≡ Some fault → after ≡ before
      → stop ≡ Some (place_of number (first_line text) fault) → Shows number before text after stop
  goes : {number : ℕ} {before text after : List ℕ} {stop : Option Place} {answer : ContextAnswer} → 0 < length text → IsAnswerOf (first_line text) answer
      → Shows (number + 1) (before ++ shown_answer answer) (behind_line text) after stop → Shows number before text after stop
