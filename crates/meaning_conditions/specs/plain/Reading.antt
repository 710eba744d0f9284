-- The plain program beside the relation: it reads the signs from the left, and keeps what is open around them.
use Rattle.std.specs.Prelude.{ℕ, ◌+◌, true, false, nat_le, Option, Some, None, List, [], ◌∷◌}
use Rattle.meaning_text.specs.Tokens.{Tok}
use Rattle.meaning_conditions.specs.Operators.{Unary, Binary, rank, conditional_rank, condition_rank}
use Rattle.meaning_conditions.specs.Signs.{Number, Sign, Literal, Operator, OpenParenthesis, CloseParenthesis, QuestionMark, Colon, sign_of}
use Rattle.meaning_conditions.specs.Expressions.{Tree, Leaf, One, Two, Choice}
use Rattle.meaning_conditions.specs.Values.{Operand, operand_of, one, two, choice}
use Rattle.meaning_conditions.specs.Answers.{Answer, HasBadIndex, answer_of_operand}

-- what is made of operators and operands: trees, or their values at once
pub record Making (A : Type 0) : Type 0 where
  pub constant : Number → A
  pub one : Unary → A → A
  pub two : ℕ → Binary → A → A → A
  pub choice : A → A → A → A

abbrev pub trees : Making Tree
trees = record { constant = Leaf; one = One; two = Two; choice = Choice }

abbrev pub values : Making Operand
values = record { constant = operand_of; one = one; two = two; choice = choice }

-- what waits for an operand
pub data Frame (A : Type 0) : Type 0 where
  Parenthesis : Frame A
  Prefix : Unary → Frame A
  -- an operator, with its left operand
  Infix : (index : ℕ) → Binary → A → Frame A
  -- a condition, behind `?`
  Condition : A → Frame A
  -- a condition and what stands in the middle, behind `:`
  Middle : A → A → Frame A

-- what was read: an operand is wanted, or one stands at the end; the innermost frame is the first
pub data State (A : Type 0) : Type 0 where
  BeforeOperand : List (Frame A) → State A
  BehindOperand : List (Frame A) → A → State A

pub record Reduced (A : Type 0) : Type 0 where
  pub frames : List (Frame A)
  pub operand : A

abbrev pub unreduced : {A : Type 0} → List (Frame A) → A → Reduced A
unreduced frames operand = record { frames = frames; operand = operand }

-- the frames that bind the operand at least as strongly as this take it
abbrev pub reduced : {A : Type 0} → Making A → ℕ → List (Frame A) → A → Reduced A
reduced making least [] operand = unreduced [] operand
reduced making least (Parenthesis ∷ frames) operand = unreduced (Parenthesis ∷ frames) operand
reduced making least (Prefix operator ∷ frames) operand = reduced making least frames (making.one operator operand)
reduced making least (Infix index operator a ∷ frames) operand = elim (nat_le least (rank operator)) [
  | true ↦ reduced making least frames (making.two index operator a operand)
  | false ↦ unreduced (Infix index operator a ∷ frames) operand
]
reduced making least (Condition a ∷ frames) operand = unreduced (Condition a ∷ frames) operand
reduced making least (Middle a b ∷ frames) operand = elim (nat_le least conditional_rank) [
  | true ↦ reduced making least frames (making.choice a b operand)
  | false ↦ unreduced (Middle a b ∷ frames) operand
]

-- what a sign makes of a place where an operand is wanted; nothing, where it can't stand there
abbrev pub begun : {A : Type 0} → Making A → List (Frame A) → Sign → Option (State A)
begun making frames (Literal number) = Some (BehindOperand frames (making.constant number))
begun making frames OpenParenthesis = Some (BeforeOperand (Parenthesis ∷ frames))
begun making frames (Operator index (Some operator) between) = Some (BeforeOperand (Prefix operator ∷ frames))
begun making frames sign = None

abbrev pub behind_infix : {A : Type 0} → ℕ → Binary → Reduced A → State A
behind_infix index operator reached = BeforeOperand (Infix index operator reached.operand ∷ reached.frames)

abbrev pub behind_question : {A : Type 0} → Reduced A → State A
behind_question reached = BeforeOperand (Condition reached.operand ∷ reached.frames)

abbrev pub behind_colon : {A : Type 0} → List (Frame A) → A → Option (State A)
behind_colon (Condition a ∷ frames) operand = Some (BeforeOperand (Middle a operand ∷ frames))
behind_colon frames operand = None

abbrev pub behind_parenthesis : {A : Type 0} → List (Frame A) → A → Option (State A)
behind_parenthesis (Parenthesis ∷ frames) operand = Some (BehindOperand frames operand)
behind_parenthesis frames operand = None

-- the same behind an operand
abbrev pub continued : {A : Type 0} → Making A → List (Frame A) → A → Sign → Option (State A)
continued making frames operand (Operator index before (Some operator)) =
    Some (behind_infix index operator (reduced making (rank operator) frames operand))
continued making frames operand QuestionMark = Some (behind_question (reduced making condition_rank frames operand))
continued making frames operand Colon =
    let all = reduced making conditional_rank frames operand in behind_colon all.frames all.operand
continued making frames operand CloseParenthesis =
    let all = reduced making conditional_rank frames operand in behind_parenthesis all.frames all.operand
continued making frames operand sign = None

abbrev pub next_state : {A : Type 0} → Making A → State A → Sign → Option (State A)
next_state making (BeforeOperand frames) sign = begun making frames sign
next_state making (BehindOperand frames operand) sign = continued making frames operand sign

-- what the signs are, or the first index at which they go wrong
pub data Read (A : Type 0) : Type 0 where
  ReadWhole : A → Read A
  ReadWrong : ℕ → Read A

-- nothing is open at the end
abbrev pub whole : {A : Type 0} → ℕ → List (Frame A) → A → Read A
whole index [] operand = ReadWhole operand
whole index (frame ∷ frames) operand = ReadWrong index

abbrev pub ended : {A : Type 0} → Making A → ℕ → State A → Read A
ended making index (BeforeOperand frames) = ReadWrong index
ended making index (BehindOperand frames operand) =
    let all = reduced making conditional_rank frames operand in whole index all.frames all.operand

abbrev pub read_from : {A : Type 0} → Making A → ℕ → State A → List Tok → Read A
read_from making index state [] = ended making index state
read_from making index state (token ∷ tokens) = elim (next_state making state (sign_of index token)) [
  | None ↦ ReadWrong index
  | Some next ↦ read_from making (index + 1) next tokens
]

-- all tokens
abbrev pub read : {A : Type 0} → Making A → List Tok → Read A
read making tokens = read_from making 0 (BeforeOperand []) tokens

-- the answer for what was read
abbrev pub answer_of_read : Read Operand → Answer
answer_of_read (ReadWhole operand) = answer_of_operand operand
answer_of_read (ReadWrong index) = HasBadIndex index

abbrev pub answer_of : List Tok → Answer
answer_of tokens = answer_of_read (read values tokens)
