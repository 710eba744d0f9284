-- Small expressions, with the types that the operators give them, so that constants can be looked at.
use Rattle.std.specs.Prelude.{ℕ, Bool, false, ℤ, Option, Some, None}
use Rattle.vocabulary.specs.declared.int_kind.IntKind.{IntKind}
use Rattle.vocabulary.specs.declared.int_kind.IntKind.TheVariants as kinds
use Rattle.vocabulary.specs.declared.operator.Operator.{Operator}
use Rattle.vocabulary.specs.declared.operator.Operator.TheVariants as operators
use Rattle.meaning_types.specs.Types.{TypeTree}
use Rattle.meaning_types.specs.examples.Types.{plain}
use Rattle.meaning_types.specs.examples.Derived.{restricted_at}
use Rattle.meaning_operands.specs.Operators.{law_of}
use Rattle.meaning_operands.specs.Answers.{given_identity}
use Rattle.meaning_constants.specs.Constants.{Constant, Part, kind_of, operand_of, is_fouled_by, unary_kind, binary_kind, conditional_kind, literal_constant, size_constant, cast_constant, own_constant, unary_constant, binary_constant, and_constant, or_constant, conditional_constant, conditional_without_middle}

pub data Expression : Type 0 where
  -- a literal of this kind, with these bits
  Literal : IntKind → ℕ → Expression
  -- something of this type that is no constant: an object, a call, a comma
  Other : TypeTree → Expression
  -- a size, if there is one
  Sized : Option ℕ → Expression
  Alone : Operator → Expression → Expression
  Between : Operator → Expression → Expression → Expression
  And : Expression → Expression → Expression
  Or : Expression → Expression → Expression
  -- `?:`, with its middle operand and without it
  Choice : Expression → Expression → Expression → Expression
  ChoiceOr : Expression → Expression → Expression
  Cast : TypeTree → Expression → Expression

-- Parts

abbrev pub kind_or_int : Option IntKind → IntKind
kind_or_int None = kinds.Int
kind_or_int (Some kind) = kind

abbrev pub part_kind : Part → IntKind
part_kind part = kind_or_int (kind_of part.of)

abbrev pub integer_type : Option ℕ → IntKind → TypeTree
integer_type None kind = plain kind
integer_type (Some identity) kind = restricted_at identity kind

abbrev pub number_in : Option Constant → Option ℤ
number_in None = None
number_in (Some constant) = Some constant.number

abbrev pub part_with : TypeTree → (fouled : Bool) → Option Constant → Part
part_with of fouled constant = record { of = of; fouled = fouled; number = number_in constant }

abbrev pub unfouled : TypeTree → Option Constant → Part
unfouled of constant = part_with of false constant

-- what an operator gives of one part, and of two
abbrev pub part_alone : Operator → Part → Part
part_alone operator part =
    part_with (integer_type (given_identity (law_of operator).gives (operand_of part) (operand_of part)) (unary_kind operator part.of (part_kind part)))
    (is_fouled_by operator part part) (unary_constant operator part)

abbrev pub part_between : Operator → Part → Part → Part
part_between operator left right =
    part_with
    (integer_type (given_identity (law_of operator).gives (operand_of left) (operand_of right))
    (binary_kind operator left.of right.of (part_kind left) (part_kind right)))
    (is_fouled_by operator left right) (binary_constant operator left right)

-- what one of two arms gives
abbrev pub part_of_arms : Part → Part → Option Constant → Part
part_of_arms second third constant =
    part_with
    (integer_type (given_identity (law_of operators.Conditional).gives (operand_of second) (operand_of third))
    (conditional_kind second third (part_kind second) (part_kind third)))
    (is_fouled_by operators.Conditional second third) constant

abbrev pub part_of : Expression → Part
part_of (Literal kind bits) = unfouled (plain kind) (literal_constant kind bits)
part_of (Other of) = unfouled of None
part_of (Sized bytes) = unfouled (plain kinds.ULong) (size_constant bytes)
part_of (Alone operator operand) = part_alone operator (part_of operand)
part_of (Between operator left right) = part_between operator (part_of left) (part_of right)
part_of (And left right) = unfouled (plain kinds.Int) (and_constant (part_of left) (part_of right))
part_of (Or left right) = unfouled (plain kinds.Int) (or_constant (part_of left) (part_of right))
part_of (Choice condition second third) =
    part_of_arms (part_of second) (part_of third) (conditional_constant (part_of condition) (part_of second) (part_of third))
part_of (ChoiceOr condition third) =
    part_of_arms (part_of condition) (part_of third) (conditional_without_middle (part_of condition) (part_of third))
part_of (Cast to operand) = unfouled to (cast_constant to (part_of operand))

-- the constant of an expression
abbrev pub constant_of : Expression → Option Constant
constant_of expression = own_constant (part_of expression)
