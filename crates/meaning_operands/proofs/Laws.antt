-- Each operator's law is sound: by computing, one operator at a time.
use Rattle.std.proofs.Common.{refl}
use Rattle.vocabulary.specs.declared.operator.Operator.{Operator}
use Rattle.vocabulary.specs.declared.operator.Operator.TheVariants.{Subscript, PostIncrement, PostDecrement, PreIncrement, PreDecrement, UnaryPlus, Negation, Complement, LogicalNot, Multiplication, Division, Remainder, Addition, Subtraction, LeftShift, RightShift, Less, Greater, LessOrEqual, GreaterOrEqual, Equal, NotEqual, BitwiseAnd, BitwiseExclusiveOr, BitwiseOr, LogicalAnd, LogicalOr, Conditional, MultiplicationAssignment, DivisionAssignment, RemainderAssignment, AdditionAssignment, SubtractionAssignment, LeftShiftAssignment, RightShiftAssignment, BitwiseAndAssignment, BitwiseExclusiveOrAssignment, BitwiseOrAssignment, Comma}
use Rattle.meaning_operands.specs.Operators.{law_of}
use Rattle.meaning_operands.specs.laws.Operators.{IsSound}

pub each_law_is_sound : (operator : Operator) → IsSound (law_of operator)
each_law_is_sound Subscript = record { kept = refl; plain = refl; tested = refl; stored = refl }
each_law_is_sound PostIncrement = record { kept = refl; plain = refl; tested = refl; stored = refl }
each_law_is_sound PostDecrement = record { kept = refl; plain = refl; tested = refl; stored = refl }
each_law_is_sound PreIncrement = record { kept = refl; plain = refl; tested = refl; stored = refl }
each_law_is_sound PreDecrement = record { kept = refl; plain = refl; tested = refl; stored = refl }
each_law_is_sound UnaryPlus = record { kept = refl; plain = refl; tested = refl; stored = refl }
each_law_is_sound Negation = record { kept = refl; plain = refl; tested = refl; stored = refl }
each_law_is_sound Complement = record { kept = refl; plain = refl; tested = refl; stored = refl }
each_law_is_sound LogicalNot = record { kept = refl; plain = refl; tested = refl; stored = refl }
each_law_is_sound Multiplication = record { kept = refl; plain = refl; tested = refl; stored = refl }
each_law_is_sound Division = record { kept = refl; plain = refl; tested = refl; stored = refl }
each_law_is_sound Remainder = record { kept = refl; plain = refl; tested = refl; stored = refl }
each_law_is_sound Addition = record { kept = refl; plain = refl; tested = refl; stored = refl }
each_law_is_sound Subtraction = record { kept = refl; plain = refl; tested = refl; stored = refl }
each_law_is_sound LeftShift = record { kept = refl; plain = refl; tested = refl; stored = refl }
each_law_is_sound RightShift = record { kept = refl; plain = refl; tested = refl; stored = refl }
each_law_is_sound Less = record { kept = refl; plain = refl; tested = refl; stored = refl }
each_law_is_sound Greater = record { kept = refl; plain = refl; tested = refl; stored = refl }
each_law_is_sound LessOrEqual = record { kept = refl; plain = refl; tested = refl; stored = refl }
each_law_is_sound GreaterOrEqual = record { kept = refl; plain = refl; tested = refl; stored = refl }
each_law_is_sound Equal = record { kept = refl; plain = refl; tested = refl; stored = refl }
each_law_is_sound NotEqual = record { kept = refl; plain = refl; tested = refl; stored = refl }
each_law_is_sound BitwiseAnd = record { kept = refl; plain = refl; tested = refl; stored = refl }
each_law_is_sound BitwiseExclusiveOr = record { kept = refl; plain = refl; tested = refl; stored = refl }
each_law_is_sound BitwiseOr = record { kept = refl; plain = refl; tested = refl; stored = refl }
each_law_is_sound LogicalAnd = record { kept = refl; plain = refl; tested = refl; stored = refl }
each_law_is_sound LogicalOr = record { kept = refl; plain = refl; tested = refl; stored = refl }
each_law_is_sound Conditional = record { kept = refl; plain = refl; tested = refl; stored = refl }
each_law_is_sound MultiplicationAssignment = record { kept = refl; plain = refl; tested = refl; stored = refl }
each_law_is_sound DivisionAssignment = record { kept = refl; plain = refl; tested = refl; stored = refl }
each_law_is_sound RemainderAssignment = record { kept = refl; plain = refl; tested = refl; stored = refl }
each_law_is_sound AdditionAssignment = record { kept = refl; plain = refl; tested = refl; stored = refl }
each_law_is_sound SubtractionAssignment = record { kept = refl; plain = refl; tested = refl; stored = refl }
each_law_is_sound LeftShiftAssignment = record { kept = refl; plain = refl; tested = refl; stored = refl }
each_law_is_sound RightShiftAssignment = record { kept = refl; plain = refl; tested = refl; stored = refl }
each_law_is_sound BitwiseAndAssignment = record { kept = refl; plain = refl; tested = refl; stored = refl }
each_law_is_sound BitwiseExclusiveOrAssignment = record { kept = refl; plain = refl; tested = refl; stored = refl }
each_law_is_sound BitwiseOrAssignment = record { kept = refl; plain = refl; tested = refl; stored = refl }
each_law_is_sound Comma = record { kept = refl; plain = refl; tested = refl; stored = refl }
