-- What holds of the laws of all operators.
use Rattle.std.specs.Prelude.{◌≡◌, Bool, true, false, List, [], ◌∷◌, not, ◌&&◌, ◌||◌}
use Rattle.std.specs.List.{filter}
use Rattle.vocabulary.specs.declared.operator.Operator.{Operator}
use Rattle.vocabulary.specs.declared.operator.Operator.TheVariants.{Subscript, PostIncrement, PostDecrement, PreIncrement, PreDecrement, UnaryPlus, Negation, Complement, LogicalNot, Multiplication, Division, Remainder, Addition, Subtraction, LeftShift, RightShift, Less, Greater, LessOrEqual, GreaterOrEqual, Equal, NotEqual, BitwiseAnd, BitwiseExclusiveOr, BitwiseOr, LogicalAnd, LogicalOr, Conditional, MultiplicationAssignment, DivisionAssignment, RemainderAssignment, AdditionAssignment, SubtractionAssignment, LeftShiftAssignment, RightShiftAssignment, BitwiseAndAssignment, BitwiseExclusiveOrAssignment, BitwiseOrAssignment, Comma}
use Rattle.meaning_operands.specs.Operators.{Operands, IntegerOperands, Demand, OneType, PlainOnly, PlainStored, ResultIdentity, NoIdentity, StoredIdentity, FoulMark, NeverFouled, OperatorLaw, law_of}

-- all operators, in the order of the standard
abbrev pub all_operators : List Operator
all_operators =
    Subscript ∷ PostIncrement ∷ PostDecrement ∷ PreIncrement ∷ PreDecrement ∷ UnaryPlus ∷ Negation ∷ Complement ∷ LogicalNot
    ∷ Multiplication ∷ Division ∷ Remainder ∷ Addition ∷ Subtraction ∷ LeftShift ∷ RightShift
    ∷ Less ∷ Greater ∷ LessOrEqual ∷ GreaterOrEqual ∷ Equal ∷ NotEqual
    ∷ BitwiseAnd ∷ BitwiseExclusiveOr ∷ BitwiseOr ∷ LogicalAnd ∷ LogicalOr ∷ Conditional
    ∷ MultiplicationAssignment ∷ DivisionAssignment ∷ RemainderAssignment ∷ AdditionAssignment ∷ SubtractionAssignment
    ∷ LeftShiftAssignment ∷ RightShiftAssignment ∷ BitwiseAndAssignment ∷ BitwiseExclusiveOrAssignment ∷ BitwiseOrAssignment
    ∷ Comma ∷ []

abbrev pub tests : Operator → Bool
tests operator = (law_of operator).tests

-- it takes no pointer
abbrev pub is_of_integers : Operands → Bool
is_of_integers IntegerOperands = true
is_of_integers operands = false

abbrev pub takes_integers : Operator → Bool
takes_integers operator = is_of_integers (law_of operator).operands

abbrev pub asks_for_one_type : Demand → Bool
asks_for_one_type OneType = true
asks_for_one_type demand = false

-- a restricted operand fails
abbrev pub asks_for_plain_types : Demand → Bool
asks_for_plain_types PlainOnly = true
asks_for_plain_types PlainStored = true
asks_for_plain_types demand = false

abbrev pub gives_no_identity : ResultIdentity → Bool
gives_no_identity NoIdentity = true
gives_no_identity gives = false

abbrev pub is_stored : ResultIdentity → Bool
is_stored StoredIdentity = true
is_stored gives = false

abbrev pub is_never_fouled : FoulMark → Bool
is_never_fouled NeverFouled = true
is_never_fouled foul = false

-- the second of these wherever the first
abbrev pub implies : Bool → Bool → Bool
implies first second = not first || second

pub record IsSound (law : OperatorLaw) : Type 0 where
  -- one that asks for one type gives it, unless it tests: never the base
  pub kept : implies (asks_for_one_type law.demand) (law.tests || not (gives_no_identity law.gives)) ≡ true
  -- one that asks for plain types gives none that is restricted, unless a place holds it
  pub plain : implies (asks_for_plain_types law.demand) (gives_no_identity law.gives || is_stored law.gives) ≡ true
  -- what a test gives is an int
  pub tested : implies law.tests (gives_no_identity law.gives && is_never_fouled law.foul) ≡ true
  -- a place never holds a fouled value
  pub stored : implies (is_stored law.gives) (is_never_fouled law.foul) ≡ true

pub record OperatorFacts : Type 0 where
  pub testing : filter tests all_operators ≡ LogicalNot ∷ Equal ∷ NotEqual ∷ LogicalAnd ∷ LogicalOr ∷ []
  pub integers :
      filter takes_integers all_operators
      ≡ UnaryPlus ∷ Negation ∷ Complement ∷ Multiplication ∷ Division ∷ Remainder ∷ LeftShift ∷ RightShift
      ∷ BitwiseAnd ∷ BitwiseExclusiveOr ∷ BitwiseOr ∷ MultiplicationAssignment ∷ DivisionAssignment ∷ RemainderAssignment
      ∷ LeftShiftAssignment ∷ RightShiftAssignment ∷ BitwiseAndAssignment ∷ BitwiseExclusiveOrAssignment ∷ BitwiseOrAssignment ∷ []
  pub sound : (operator : Operator) → IsSound (law_of operator)
