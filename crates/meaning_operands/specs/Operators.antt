-- The law of each operator: what it takes, what it asks of restricted operands, whether it tests them, and what it gives.
use Rattle.std.specs.Prelude.{Bool, true, false}
use Rattle.vocabulary.specs.declared.operator.Operator.{Operator}
use Rattle.vocabulary.specs.declared.operator.Operator.TheVariants as operators

-- What operands an operator takes, where a restricted type counts as its base. All arithmetic types are integers here.
pub data Operands : Type 0 where
  IntegerOperands : Operands
  -- each is an integer or a pointer
  ScalarOperands : Operands
  -- a pointer and an integer (6.5.2.1 p1)
  ElementOperands : Operands
  -- two integers, or a pointer and an integer (6.5.6 p2)
  SumOperands : Operands
  -- two integers, a pointer and an integer behind it, or two pointers (6.5.6 p3)
  DifferenceOperands : Operands
  -- two integers, or a place with a pointer and an integer (6.5.16.2 p1)
  StepOperands : Operands
  -- two integers, or two pointers (6.5.8 p2, 6.5.9 p2)
  ComparedOperands : Operands
  -- two of one sort, void among them (6.5.15 p3)
  ArmOperands : Operands
  AnyOperands : Operands

-- what is asked of a restricted operand
pub data Demand : Type 0 where
  -- the other one is of the same restricted type, or the constant 0
  OneType : Demand
  -- there is none
  PlainOnly : Demand
  -- there is none, and what is given is stored
  PlainStored : Demand
  -- nothing
  Anything : Demand

-- whose restricted type the result has, if any has one
pub data ResultIdentity : Type 0 where
  -- nobody's: the base counts, or an int or a place is given
  NoIdentity : ResultIdentity
  -- the left operand's, or else the right one's
  OneIdentity : ResultIdentity
  -- the only operand's
  OwnIdentity : ResultIdentity
  -- that of the place on the left, in which the result is stored
  StoredIdentity : ResultIdentity
  -- the last operand's
  LastIdentity : ResultIdentity

-- when the result is fouled
pub data FoulMark : Type 0 where
  NeverFouled : FoulMark
  -- where both operands are
  BothFouled : FoulMark
  -- where one is, and neither is a pointer
  EitherFouled : FoulMark
  -- where the last one is
  LastFouled : FoulMark
  -- where the operand is, or bits were set that its restricted type hasn't
  ComplementFouled : FoulMark

pub record OperatorLaw : Type 0 where
  pub operands : Operands
  pub demand : Demand
  -- a fouled operand is compared or tested
  pub tests : Bool
  pub gives : ResultIdentity
  pub foul : FoulMark

-- a law whose result is never fouled
abbrev pub law : Operands → Demand → (tests : Bool) → ResultIdentity → OperatorLaw
law operands demand tests gives = record { operands = operands; demand = demand; tests = tests; gives = gives; foul = NeverFouled }

-- integers that aren't restricted: a restricted one counts as its base
abbrev pub arithmetic : Operands → OperatorLaw
arithmetic operands = law operands PlainOnly false NoIdentity

-- two of one type are compared
abbrev pub comparison : OperatorLaw
comparison = law ComparedOperands OneType true NoIdentity

-- a value is compared with 0
abbrev pub test : OperatorLaw
test = law ScalarOperands Anything true NoIdentity

-- a result that is stored in the left operand, of integers that aren't restricted
abbrev pub arithmetic_assignment : Operands → OperatorLaw
arithmetic_assignment operands = law operands PlainStored false StoredIdentity

-- or of two of one type
abbrev pub bitwise_assignment : OperatorLaw
bitwise_assignment = law IntegerOperands OneType false StoredIdentity

-- two of one type give one of it
abbrev pub bitwise : Operands → FoulMark → OperatorLaw
bitwise operands foul = record { operands = operands; demand = OneType; tests = false; gives = OneIdentity; foul = foul }

-- the law of an operator, in the order of C11 6.5
abbrev pub law_of : Operator → OperatorLaw
law_of operators.Subscript = arithmetic ElementOperands
law_of operators.PostIncrement = arithmetic_assignment ScalarOperands
law_of operators.PostDecrement = arithmetic_assignment ScalarOperands
law_of operators.PreIncrement = arithmetic_assignment ScalarOperands
law_of operators.PreDecrement = arithmetic_assignment ScalarOperands
law_of operators.UnaryPlus = arithmetic IntegerOperands
law_of operators.Negation = arithmetic IntegerOperands
law_of operators.Complement = record { operands = IntegerOperands; demand = Anything; tests = false; gives = OwnIdentity; foul = ComplementFouled }
law_of operators.LogicalNot = test
law_of operators.Multiplication = arithmetic IntegerOperands
law_of operators.Division = arithmetic IntegerOperands
law_of operators.Remainder = arithmetic IntegerOperands
law_of operators.Addition = arithmetic SumOperands
law_of operators.Subtraction = arithmetic DifferenceOperands
law_of operators.LeftShift = arithmetic IntegerOperands
law_of operators.RightShift = arithmetic IntegerOperands
law_of operators.Less = arithmetic ComparedOperands
law_of operators.Greater = arithmetic ComparedOperands
law_of operators.LessOrEqual = arithmetic ComparedOperands
law_of operators.GreaterOrEqual = arithmetic ComparedOperands
law_of operators.Equal = comparison
law_of operators.NotEqual = comparison
law_of operators.BitwiseAnd = bitwise IntegerOperands BothFouled
law_of operators.BitwiseExclusiveOr = bitwise IntegerOperands EitherFouled
law_of operators.BitwiseOr = bitwise IntegerOperands EitherFouled
law_of operators.LogicalAnd = test
law_of operators.LogicalOr = test
law_of operators.Conditional = bitwise ArmOperands EitherFouled
law_of operators.MultiplicationAssignment = arithmetic_assignment IntegerOperands
law_of operators.DivisionAssignment = arithmetic_assignment IntegerOperands
law_of operators.RemainderAssignment = arithmetic_assignment IntegerOperands
law_of operators.AdditionAssignment = arithmetic_assignment StepOperands
law_of operators.SubtractionAssignment = arithmetic_assignment StepOperands
law_of operators.LeftShiftAssignment = arithmetic_assignment IntegerOperands
law_of operators.RightShiftAssignment = arithmetic_assignment IntegerOperands
law_of operators.BitwiseAndAssignment = bitwise_assignment
law_of operators.BitwiseExclusiveOrAssignment = bitwise_assignment
law_of operators.BitwiseOrAssignment = bitwise_assignment
law_of operators.Comma = record { operands = AnyOperands; demand = Anything; tests = false; gives = LastIdentity; foul = LastFouled }
