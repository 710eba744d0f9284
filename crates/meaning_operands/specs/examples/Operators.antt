-- Worked examples: what operators say of two operands.
use Rattle.std.specs.Prelude.{◌≡◌, Bool, true, false, List, [], ◌∷◌, Option, Some, None, map, replicate, ℕ}
use Rattle.vocabulary.specs.declared.int_kind.IntKind.TheVariants.{Char}
use Rattle.vocabulary.specs.declared.rule.RuleCode.{RuleCode}
use Rattle.vocabulary.specs.declared.rule.RuleCode.TheVariants.{B1, B2, B7}
use Rattle.vocabulary.specs.declared.operator.Operator.{Operator}
use Rattle.vocabulary.specs.declared.operator.Operator.TheVariants.{Subscript, PostIncrement, PostDecrement, PreIncrement, PreDecrement, UnaryPlus, Negation, Complement, LogicalNot, Multiplication, Division, Remainder, Addition, Subtraction, LeftShift, RightShift, Less, Greater, LessOrEqual, GreaterOrEqual, Equal, NotEqual, BitwiseAnd, BitwiseExclusiveOr, BitwiseOr, LogicalAnd, LogicalOr, Conditional, MultiplicationAssignment, DivisionAssignment, RemainderAssignment, AdditionAssignment, SubtractionAssignment, LeftShiftAssignment, RightShiftAssignment, BitwiseAndAssignment, BitwiseExclusiveOrAssignment, BitwiseOrAssignment, Comma}
use Rattle.meaning_types.specs.examples.Types.{plain}
use Rattle.meaning_operands.specs.Operands.{Operand}
use Rattle.meaning_operands.specs.Answers.{OperatorAnswer, operator_answer}
use Rattle.meaning_operands.specs.examples.Operands.{le16, le32, be32, status, value, zero, fouled, int, to_int}

-- nothing fails, and the result has this identity, and isn't fouled
abbrev pub passes : Option ℕ → OperatorAnswer
passes identity = record { rule = None; tested = false; identity = identity; fouled = false }

-- this rule fails, and the result has this identity
abbrev pub fails : RuleCode → Option ℕ → OperatorAnswer
fails rule identity = record { rule = Some rule; tested = false; identity = identity; fouled = false }

-- the answers of operators to two operands
abbrev pub answers : List Operator → Operand → Operand → List OperatorAnswer
answers operators left right = map (λ operator. operator_answer operator left right) operators

-- Operators that ask for one type

abbrev pub combining : List Operator
combining = BitwiseAnd ∷ BitwiseExclusiveOr ∷ BitwiseOr ∷ Conditional ∷ []

abbrev pub comparing : List Operator
comparing = Equal ∷ NotEqual ∷ []

abbrev pub combining_assignments : List Operator
combining_assignments = BitwiseAndAssignment ∷ BitwiseExclusiveOrAssignment ∷ BitwiseOrAssignment ∷ []

-- Operators that ask for plain types

abbrev pub calculating : List Operator
calculating =
    UnaryPlus ∷ Negation ∷ Multiplication ∷ Division ∷ Remainder ∷ Addition ∷ Subtraction ∷ LeftShift ∷ RightShift
    ∷ Less ∷ Greater ∷ LessOrEqual ∷ GreaterOrEqual ∷ Subscript ∷ []

abbrev pub calculating_assignments : List Operator
calculating_assignments =
    PostIncrement ∷ PostDecrement ∷ PreIncrement ∷ PreDecrement ∷ MultiplicationAssignment ∷ DivisionAssignment ∷ RemainderAssignment
    ∷ AdditionAssignment ∷ SubtractionAssignment ∷ LeftShiftAssignment ∷ RightShiftAssignment ∷ []

pub record OperatorExamples : Type 0 where
  pub one_type : answers combining (value le32) (value le32) ≡ replicate 4 (passes (Some 2))
  pub with_zero : answers combining (value le32) zero ≡ replicate 4 (passes (Some 2))
  pub zero_first : answers combining zero (value le32) ≡ replicate 4 (passes (Some 2))
  pub plain_types : answers combining int (value (plain Char)) ≡ replicate 4 (passes None)
  pub two_types : answers combining (value le32) (value be32) ≡ replicate 4 (fails B2 (Some 2))
  pub a_plain_one : answers combining (value (plain Char)) (value be32) ≡ replicate 4 (fails B2 (Some 3))
  -- `==` and `!=` give an int
  pub compared : answers comparing (value le32) (value le32) ≡ replicate 2 (passes None)
  pub compared_with_zero : answers comparing zero (value le32) ≡ replicate 2 (passes None)
  pub unlike_compared : answers comparing (value le32) int ≡ replicate 2 (fails B2 None)
  pub unlike_right_ones : map (λ right. operator_answer BitwiseAnd (value le32) right) (value be32 ∷ int ∷ value (plain Char) ∷ []) ≡ replicate 3 (fails B2 (Some 2))
  pub compared_with_them : map (λ right. operator_answer Equal (value le32) right) (value be32 ∷ int ∷ value (plain Char) ∷ []) ≡ replicate 3 (fails B2 None)
  -- a place keeps its type
  pub combined_and_stored : answers combining_assignments (value le32) (value le32) ≡ replicate 3 (passes (Some 2))
  pub unlike_stored : answers combining_assignments (value le32) (value be32) ≡ replicate 3 (fails B2 (Some 2))
  pub stored_in_a_plain_one : answers combining_assignments int (value be32) ≡ replicate 3 (fails B2 None)
  -- a restricted operand counts as its base, whatever the other one is
  pub degrades : answers calculating (value le32) (value le32) ≡ replicate 14 (fails B1 None)
  pub degrades_beside_zero : answers calculating zero (value le32) ≡ replicate 14 (fails B1 None)
  pub degrades_beside_a_plain_one : answers calculating (value le32) int ≡ replicate 14 (fails B1 None)
  pub calculated : answers calculating int zero ≡ replicate 14 (passes None)
  pub stored : answers calculating_assignments (value le32) zero ≡ replicate 11 (fails B7 (Some 2))
  pub stored_from_a_restricted_one : answers calculating_assignments int (value be32) ≡ replicate 11 (fails B7 None)
  pub stored_plain : answers calculating_assignments int int ≡ replicate 11 (passes None)
  pub last : answers (Comma ∷ []) (value le32) (value be32) ≡ passes (Some 3) ∷ []

-- Fouled values

abbrev pub fouls : Operator → Operand → Operand → Bool
fouls operator left right = (operator_answer operator left right).fouled

abbrev pub is_tested : Operator → Operand → Operand → Bool
is_tested operator left right = (operator_answer operator left right).tested

pub record FoulExamples : Type 0 where
  -- `~` of an unsigned restricted type that is narrower than int, and of what is fouled already
  pub narrow : operator_answer Complement (value le16) (value le16) ≡ record { rule = None; tested = false; identity = Some 1; fouled = true }
  pub wide : operator_answer Complement (value le32) (value le32) ≡ passes (Some 2)
  pub signed : operator_answer Complement (value status) (value status) ≡ passes (Some 4)
  pub again : fouls Complement (fouled le32) (fouled le32) ≡ true
  pub plain_one : operator_answer Complement int int ≡ passes None
  -- `&` clears what one operand hasn't; the others keep what one has
  pub both : map (λ right. fouls BitwiseAnd (fouled le16) right) (fouled le16 ∷ value le16 ∷ zero ∷ []) ≡ true ∷ false ∷ false ∷ []
  pub either :
      map (λ operator. fouls operator (fouled le16) (value le16)) (BitwiseOr ∷ BitwiseExclusiveOr ∷ Conditional ∷ []) ≡ replicate 3 true
  pub other : map (λ operator. fouls operator (value le16) (fouled le16)) (BitwiseOr ∷ BitwiseExclusiveOr ∷ Conditional ∷ []) ≡ replicate 3 true
  pub last : fouls Comma (value le16) (fouled le16) ≡ true
  pub not_the_first : fouls Comma (fouled le16) (value le16) ≡ false
  pub stored : map (λ operator. fouls operator (fouled le16) (fouled le16)) combining_assignments ≡ replicate 3 false
  -- compared or tested, on either side
  pub tested :
      map (λ operator. is_tested operator (fouled le16) (value le16)) (Equal ∷ NotEqual ∷ LogicalNot ∷ LogicalAnd ∷ LogicalOr ∷ []) ≡ replicate 5 true
  pub right_one : is_tested LogicalAnd (value le16) (fouled le16) ≡ true
  -- besides what else fails
  pub unlike : operator_answer Equal (fouled le16) int ≡ record { rule = Some B2; tested = true; identity = None; fouled = false }
  pub not_tested : map (λ operator. is_tested operator (fouled le16) (fouled le16)) (BitwiseAnd ∷ Conditional ∷ Less ∷ []) ≡ replicate 3 false

-- Beside a pointer types aren't asked to be one

pub record PointerExamples : Type 0 where
  pub compared : operator_answer Equal (value le32) (value to_int) ≡ passes None
  pub fouled_one : operator_answer Equal (fouled le16) (value to_int) ≡ record { rule = None; tested = true; identity = None; fouled = false }
  pub added : operator_answer Addition (value to_int) (value le32) ≡ fails B1 None
  pub stored : operator_answer AdditionAssignment (value to_int) (value le32) ≡ fails B7 None
  pub index : operator_answer Subscript (value to_int) (value le32) ≡ fails B1 None
  -- an arm that is a pointer: the left arm's type is given, and no mark
  pub left_arm : operator_answer Conditional (fouled le16) (value to_int) ≡ passes (Some 1)
  pub right_arm : operator_answer Conditional (value to_int) (fouled le16) ≡ passes None
