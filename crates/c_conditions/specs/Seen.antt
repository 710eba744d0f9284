-- How the values of this crate are seen by the definitions of `meaning_conditions`.
use Rattle.std.specs.Prelude.{◌≡◌, ℕ, option_map, Result, Ok, Err, List}
use Rattle.meaning_conditions.specs.Operators as operators
use Rattle.meaning_conditions.specs.Signs.{Number}
use Rattle.meaning_conditions.specs.Signs as signs
use Rattle.meaning_conditions.specs.Values as values
use Rattle.meaning_text.specs.Tokens.{Tok}
use Rattle.meaning_conditions.specs.Answers.{Answer, HasValue, HasBadIndex, HasZeroDivisor, IsIfAnswer}
use Rattle.c_conditions.specs.declared.fault.IfNumber.{IfNumber}
use Rattle.c_conditions.specs.declared.fault.IfFault.{IfFault}
use Rattle.c_conditions.specs.declared.fault.IfFault.TheVariants.{BadExpression, ZeroDivisor, Memory}
use Rattle.c_conditions.specs.declared.operators.Unary.{Unary}
use Rattle.c_conditions.specs.declared.operators.Unary.TheVariants as unary
use Rattle.c_conditions.specs.declared.operators.Binary.{Binary}
use Rattle.c_conditions.specs.declared.operators.Binary.TheVariants as binary
use Rattle.c_conditions.specs.declared.signs.Sign.{Sign}
use Rattle.c_conditions.specs.declared.signs.Sign.TheVariants as found
use Rattle.c_conditions.specs.declared.operand.Outcome.{Outcome}
use Rattle.c_conditions.specs.declared.operand.Outcome.TheVariants.{Is, ZeroAt}
use Rattle.c_conditions.specs.declared.operand.Operand.{Operand}

abbrev pub number_seen : IfNumber → Number
number_seen number = record { bits = number.bits; unsigned = number.unsigned }

abbrev pub unary_seen : Unary → operators.Unary
unary_seen unary.Plus = operators.Plus
unary_seen unary.Negative = operators.Negative
unary_seen unary.Complement = operators.Complement
unary_seen unary.Not = operators.Not

abbrev pub binary_seen : Binary → operators.Binary
binary_seen binary.Multiply = operators.Multiply
binary_seen binary.Divide = operators.Divide
binary_seen binary.Remainder = operators.Remainder
binary_seen binary.Add = operators.Add
binary_seen binary.Subtract = operators.Subtract
binary_seen binary.LeftShift = operators.LeftShift
binary_seen binary.RightShift = operators.RightShift
binary_seen binary.Less = operators.Less
binary_seen binary.Greater = operators.Greater
binary_seen binary.LessEqual = operators.LessEqual
binary_seen binary.GreaterEqual = operators.GreaterEqual
binary_seen binary.Equal = operators.Equal
binary_seen binary.NotEqual = operators.NotEqual
binary_seen binary.BitAnd = operators.BitAnd
binary_seen binary.BitXor = operators.BitXor
binary_seen binary.BitOr = operators.BitOr
binary_seen binary.And = operators.And
binary_seen binary.Or = operators.Or

-- a sign whose token has this index
abbrev pub sign_seen : ℕ → Sign → signs.Sign
sign_seen index (found.Literal number) = signs.Literal (number_seen number)
sign_seen index (found.Operator before between) = signs.Operator index (option_map unary_seen before) (option_map binary_seen between)
sign_seen index found.OpenParenthesis = signs.OpenParenthesis
sign_seen index found.CloseParenthesis = signs.CloseParenthesis
sign_seen index found.QuestionMark = signs.QuestionMark
sign_seen index found.Colon = signs.Colon
sign_seen index found.Stranger = signs.Stranger

abbrev pub outcome_seen : Outcome → values.Outcome
outcome_seen (Is bits) = values.Is bits
outcome_seen (ZeroAt index) = values.ZeroAt index

abbrev pub operand_seen : Operand → values.Operand
operand_seen operand = record { outcome = outcome_seen operand.outcome; unsigned = operand.unsigned }

-- the result tells this answer, or that memory is wanting
abbrev pub Matches : Answer → Result IfNumber IfFault → Type 0
Matches answer (Ok number) = answer ≡ HasValue (number_seen number)
Matches answer (Err (BadExpression index)) = answer ≡ HasBadIndex index
Matches answer (Err (ZeroDivisor index)) = answer ≡ HasZeroDivisor index
Matches answer (Err Memory) = Unit {0}

-- the fault is the answer to these tokens, or want of memory
abbrev pub IsIfFault : List Tok → IfFault → Type 0
IsIfFault tokens (BadExpression index) = IsIfAnswer tokens (HasBadIndex index)
IsIfFault tokens (ZeroDivisor index) = IsIfAnswer tokens (HasZeroDivisor index)
IsIfFault tokens Memory = Unit {0}
