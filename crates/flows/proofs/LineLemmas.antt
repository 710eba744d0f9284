-- A text up to a byte; and what is answered for a text, line by line.
use Rattle.std.proofs.Common.{◌≡◌, ℕ, zero, suc, ◌+◌, ◌-◌, ◌<◌, ◌≤◌, ◌==◌, Bool, true, false, Option, Some, Result, Ok, Err, IfErr, IfOk, IsErrAnd, OnOk, is_err, List, [], ◌∷◌, ◌++◌, take, drop, length, slice_index, if◌then◌else◌, refl, sym, ap, ◌∙◌, subst, arith}
use Rattle.std.proofs.lemmas.List.{length-drop, take_all}
use Rattle.std.proofs.lemmas.Result.{err_from_is_err_and}
use Rattle.meaning_paths.specs.Graphs.{BasicBlock}
use Rattle.control_flow.specs.declared.note.ContextAnswer.{ContextAnswer}
use Rattle.flows.specs.declared.line.NoLine.{NoLine}
use Rattle.flows.specs.declared.line.NoLine.TheVariants as no_line
use Rattle.flows.specs.declared.wrong.Fault.{Fault}
use Rattle.flows.specs.declared.wrong.Place.{Place}
use Rattle.flows.specs.Reading.{Reading, Reads, behind_spaces, reads_on}
use Rattle.flows.specs.Lines.{FlowLine, before_byte, behind_byte, block_at, blocks_at, from_block, line_at, line_with, note_at}
use Rattle.flows.specs.Shown.{shown_answer}
use Rattle.flows.specs.Answers.{IsAnswerFor, IsAnswerOf, IsFaultFor, IsFaultOf, IsOneMore, IsReadingOf, Shows, behind_line, fault_of, first_line, goes, line_fault, place_of, stops}

never : (test : Bool) → (test ≡ true → ⊥) → test ≡ false
never true isnt = absurd (isnt refl)
never false isnt = refl

-- a text that isn't empty has a first byte
pub some-left : (text : List ℕ) → (length text == 0) ≡ false → 0 < length text
some-left [] is = absurd (cc)
some-left (byte ∷ rest) is = omega arith

-- what a slice up to the end of a text is
pub to-end : (text : List ℕ) (place : ℕ) → take (length text - place) (drop place text) ≡ drop place text
to-end text place = take_all (length text - place) (drop place text) (omega (arith, length-drop place text))

-- an error that is handed on by `?`
pub handed-on : {T F : Type 0} (P : F → Type 0) (fault : F) (result : Result T F) → IsErrAnd result (λ other. other ≡ fault) → P fault → IfErr result P
handed-on P fault result is holds =
    let found = err_from_is_err_and result is in
    subst (λ one. IfErr one P) (sym found.1) (subst P (sym found.2) holds)

-- what holds where a call went well
pub went-well : {T E P : Type 0} (result : Result T E) → is_err result ≡ false → OnOk result P → P
went-well (Ok value) well holds = holds
went-well (Err fault) well holds = absurd (cc well)

-- where the first byte that is this one stands, and where none does
pub split-at : (mark : ℕ) (text : List ℕ) (place : ℕ) → place < length text → (slice_index text place == mark) ≡ true → ((k : ℕ) → 0 ≤ k → k < place → (slice_index text k == mark) ≡ true → ⊥)
    → (before_byte mark text ≡ take place text) × (behind_byte mark text ≡ drop (suc place) text)
split-at mark [] place within here before = absurd (omega (arith, within))
split-at mark (byte ∷ rest) zero within here before = (
  ap (λ (ends : Bool). if ends then [] else byte ∷ before_byte mark rest) here,
  ap (λ (ends : Bool). if ends then rest else behind_byte mark rest) here,
)
split-at mark (byte ∷ rest) (suc place) within here before =
    let goes_on = never (byte == mark) (before 0 (omega arith) (omega arith)) in
    let later = split-at mark rest place (omega (arith, within)) here (λ k low below. before (suc k) (omega arith) (omega (arith, below))) in (
      ap (λ (ends : Bool). if ends then [] else byte ∷ before_byte mark rest) goes_on ∙ ap (λ (line : List ℕ). byte ∷ line) later.0,
      ap (λ (ends : Bool). if ends then rest else behind_byte mark rest) goes_on ∙ later.1,
    )

pub unsplit : (mark : ℕ) (text : List ℕ) → ((k : ℕ) → 0 ≤ k → k < length text → (slice_index text k == mark) ≡ true → ⊥) → (before_byte mark text ≡ text) × (behind_byte mark text ≡ [])
unsplit mark [] nowhere = (refl, refl)
unsplit mark (byte ∷ rest) nowhere =
    let goes_on = never (byte == mark) (nowhere 0 (omega arith) (omega arith)) in
    let later = unsplit mark rest (λ k low below. nowhere (suc k) (omega arith) (omega (arith, below))) in (
      ap (λ (ends : Bool). if ends then [] else byte ∷ before_byte mark rest) goes_on ∙ ap (λ (line : List ℕ). byte ∷ line) later.0,
      ap (λ (ends : Bool). if ends then rest else behind_byte mark rest) goes_on ∙ later.1,
    )

-- one bar is passed
pub one-bar : (number : ℕ) (text : List ℕ) → 0 < number → from_block (number - 1) (behind_byte 124 text) ≡ from_block number text
one-bar zero text some = absurd (omega (arith, some))
one-bar (suc number) text some =
    let same : suc number - 1 ≡ number = omega arith in
    ap (λ (k : ℕ). from_block k (behind_byte 124 text)) same

-- what a line says is answered or lacks something, and so does the line
pub line-answered : (text : List ℕ) (line : FlowLine) (result : Result ContextAnswer NoLine) → line_at text ≡ Reads line [] → IfOk result (IsAnswerFor line) → IfOk result (IsAnswerOf text)
line-answered text line (Ok answer) read says = record { line = line; read = read; says = says }
line-answered text line (Err why) read says = tt

pub line-lacking : (text : List ℕ) (line : FlowLine) (result : Result ContextAnswer NoLine) → line_at text ≡ Reads line [] → IfErr result (IsFaultFor text line) → IfErr result (IsFaultOf text)
line-lacking text line (Ok answer) read lacks = tt
line-lacking text line (Err (no_line.Wrong fault)) read lacks = ap (fault_of text) read ∙ lacks
line-lacking text line (Err no_line.NoMemory) read lacks = tt

-- a block more stands behind others
pub one-block-more : (before after : List BasicBlock) (text rest : List ℕ) (one : BasicBlock) → block_at text ≡ Reads one rest → after ≡ before ++ one ∷ [] → IsOneMore before after (block_at text) rest
one-block-more before after text rest one read more = subst (λ (found : Reading BasicBlock). IsOneMore before after found rest) (sym read) (more, refl)

-- a line that isn't read is one with that fault
pub line-unread : (text : List ℕ) (why : NoLine) → IsReadingOf (line_at text) why → IsFaultOf text why
line-unread text (no_line.Wrong fault) is = ap (fault_of text) is
line-unread text no_line.NoMemory is = tt

-- what isn't read of a line's parts
pub blocks-unread : (text spaced : List ℕ) (why : NoLine) → spaced ≡ behind_spaces text → IsReadingOf (blocks_at spaced) why → IsReadingOf (line_at text) why
blocks-unread text spaced (no_line.Wrong fault) same is =
    ap (λ (found : Reading (List BasicBlock)). reads_on found (λ graph rest. reads_on (note_at rest) (λ note last. Reads (line_with graph note) last))) (ap blocks_at (sym same) ∙ is)
blocks-unread text spaced no_line.NoMemory same is = tt

-- one line more is answered
pub line-goes : (number : ℕ) (before text line others more after : List ℕ) (stop : Option Place) (answer : ContextAnswer) → 0 < length text → line ≡ first_line text → others ≡ behind_line text
    → more ≡ before ++ shown_answer answer → IsAnswerOf line answer → Shows (number + 1) more others after stop → Shows number before text after stop
line-goes number before text line others more after stop answer some is_first is_behind is_more answers later =
    goes some (subst (λ (l : List ℕ). IsAnswerOf l answer) is_first answers)
    (subst (λ (m : List ℕ). Shows (number + 1) m (behind_line text) after stop) is_more (subst (λ (o : List ℕ). Shows (number + 1) more o after stop) is_behind later))

-- a line that has no answer stops all
pub line-stops : (number : ℕ) (before text line : List ℕ) (fault : Fault) (place : Place) → 0 < length text → line ≡ first_line text → line_fault line ≡ Some fault → place ≡ place_of number line fault
    → Shows number before text before (Some place)
line-stops number before text line fault place some is_first lacks is_place =
    stops some (subst (λ (l : List ℕ). line_fault l ≡ Some fault) is_first lacks) refl (ap Some is_place ∙ ap (λ (l : List ℕ). Some (place_of number l fault)) is_first)
