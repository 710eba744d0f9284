-- What an `#if` comes to.
use Rattle.std.specs.Prelude.{◌≡◌, ℕ, Bool, List}
use Rattle.meaning_text.specs.Tokens.{Tok}
use Rattle.meaning_conditions.specs.Signs.{Number}
use Rattle.meaning_conditions.specs.Expressions.{Tree, IsExpression, GoesWrongAt}
use Rattle.meaning_conditions.specs.Values.{Outcome, Is, ZeroAt, Operand, valued}

-- a value, the index of the token at which the tokens go wrong, or that of the operator whose divisor is 0
pub data Answer : Type 0 where
  HasValue : Number → Answer
  HasBadIndex : ℕ → Answer
  HasZeroDivisor : ℕ → Answer

-- the answer that the value and the type of an expression make
abbrev pub answer_with : Bool → Outcome → Answer
answer_with unsigned (Is bits) = HasValue (record { bits = bits; unsigned = unsigned })
answer_with unsigned (ZeroAt index) = HasZeroDivisor index

abbrev pub answer_of_operand : Operand → Answer
answer_of_operand operand = answer_with operand.unsigned operand.outcome

-- the tokens are an expression whose value gives this answer
abbrev pub IsAnswerOfTree : List Tok → Answer → Type 0
IsAnswerOfTree tokens answer = (tree : Tree) × IsExpression tokens tree × (answer_of_operand (valued tree) ≡ answer)

-- these tokens behind `#if` have this answer
abbrev pub IsIfAnswer : List Tok → Answer → Type 0
IsIfAnswer tokens (HasValue number) = IsAnswerOfTree tokens (HasValue number)
IsIfAnswer tokens (HasBadIndex index) = GoesWrongAt tokens index
IsIfAnswer tokens (HasZeroDivisor index) = IsAnswerOfTree tokens (HasZeroDivisor index)
