-- What an operator does with its operands, by the kind of its node (C11 6.5.2.4, 6.5.3 to 6.5.17): what is wanted of them and
-- what is known of the whole go by it.
use Rattle.vocabulary.specs.declared.node_kind.NodeKind.{NodeKind}
use Rattle.vocabulary.specs.declared.node_kind.NodeKind.TheVariants as kinds
use Rattle.vocabulary.specs.declared.operator.Operator.{Operator}
use Rattle.vocabulary.specs.declared.operator.Operator.TheVariants as operators

pub data Operation : Type 0 where
  -- `++` and `--`, behind a place or before it
  StepBehind : Operator → Operation
  StepBefore : Operator → Operation
  -- unary `+`, `-` and `~`
  UnaryOperation : Operator → Operation
  NotOperation : Operation
  -- the size or the alignment of a type, or of what an expression designates
  SizeOperation : Operation
  CastOperation : Operation
  -- two operands that make a value
  BinaryOperation : Operator → Operation
  -- `&&` and `||`
  LogicalOperation : Operator → Operation
  -- `?:`, with or without its middle operand
  ConditionalOperation : Operation
  -- an assignment that computes what it stores
  CompoundOperation : Operator → Operation
  CommaOperation : Operation
  -- `__builtin_expect`
  ExpectOperation : Operation
  -- a body in parentheses
  StatementsOperation : Operation
  -- none of these
  NoOperation : Operation

-- the one of each kind
abbrev pub operation_of : NodeKind → Operation
-- primary and postfix expressions (6.5.1, 6.5.2)
operation_of kinds.StatementExpression = StatementsOperation
operation_of kinds.PostIncrement = StepBehind operators.PostIncrement
operation_of kinds.PostDecrement = StepBehind operators.PostDecrement
operation_of kinds.BuiltinExpect = ExpectOperation
-- 6.5.3, 6.5.4
operation_of kinds.PreIncrement = StepBefore operators.PreIncrement
operation_of kinds.PreDecrement = StepBefore operators.PreDecrement
operation_of kinds.UnaryPlus = UnaryOperation operators.UnaryPlus
operation_of kinds.Negation = UnaryOperation operators.Negation
operation_of kinds.Complement = UnaryOperation operators.Complement
operation_of kinds.LogicalNot = NotOperation
operation_of kinds.SizeofExpression = SizeOperation
operation_of kinds.SizeofType = SizeOperation
operation_of kinds.AlignofType = SizeOperation
operation_of kinds.Cast = CastOperation
-- 6.5.5 to 6.5.14
operation_of kinds.Multiplication = BinaryOperation operators.Multiplication
operation_of kinds.Division = BinaryOperation operators.Division
operation_of kinds.Remainder = BinaryOperation operators.Remainder
operation_of kinds.Addition = BinaryOperation operators.Addition
operation_of kinds.Subtraction = BinaryOperation operators.Subtraction
operation_of kinds.LeftShift = BinaryOperation operators.LeftShift
operation_of kinds.RightShift = BinaryOperation operators.RightShift
operation_of kinds.Less = BinaryOperation operators.Less
operation_of kinds.Greater = BinaryOperation operators.Greater
operation_of kinds.LessOrEqual = BinaryOperation operators.LessOrEqual
operation_of kinds.GreaterOrEqual = BinaryOperation operators.GreaterOrEqual
operation_of kinds.Equal = BinaryOperation operators.Equal
operation_of kinds.NotEqual = BinaryOperation operators.NotEqual
operation_of kinds.BitwiseAnd = BinaryOperation operators.BitwiseAnd
operation_of kinds.BitwiseExclusiveOr = BinaryOperation operators.BitwiseExclusiveOr
operation_of kinds.BitwiseOr = BinaryOperation operators.BitwiseOr
operation_of kinds.LogicalAnd = LogicalOperation operators.LogicalAnd
operation_of kinds.LogicalOr = LogicalOperation operators.LogicalOr
-- 6.5.15 to 6.5.17
operation_of kinds.Conditional = ConditionalOperation
operation_of kinds.MultiplicationAssignment = CompoundOperation operators.MultiplicationAssignment
operation_of kinds.DivisionAssignment = CompoundOperation operators.DivisionAssignment
operation_of kinds.RemainderAssignment = CompoundOperation operators.RemainderAssignment
operation_of kinds.AdditionAssignment = CompoundOperation operators.AdditionAssignment
operation_of kinds.SubtractionAssignment = CompoundOperation operators.SubtractionAssignment
operation_of kinds.LeftShiftAssignment = CompoundOperation operators.LeftShiftAssignment
operation_of kinds.RightShiftAssignment = CompoundOperation operators.RightShiftAssignment
operation_of kinds.BitwiseAndAssignment = CompoundOperation operators.BitwiseAndAssignment
operation_of kinds.BitwiseExclusiveOrAssignment = CompoundOperation operators.BitwiseExclusiveOrAssignment
operation_of kinds.BitwiseOrAssignment = CompoundOperation operators.BitwiseOrAssignment
operation_of kinds.Comma = CommaOperation
operation_of kind = NoOperation
