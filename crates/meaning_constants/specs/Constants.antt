-- The constant that an expression has by what is known of its parts (C11 6.6), or none. Of a part that isn't evaluated only
-- the type is asked.
use Rattle.std.specs.Prelude.{ℕ, Bool, false, true, ◌&&◌, ℤ, pos, Option, Some, None, nat_le, if◌then◌else◌}
use Rattle.std.specs.Ordering.{int_eq}
use Rattle.vocabulary.specs.declared.int_kind.IntKind.{IntKind}
use Rattle.vocabulary.specs.declared.int_kind.IntKind.TheVariants as kinds
use Rattle.vocabulary.specs.declared.operator.Operator.{Operator}
use Rattle.vocabulary.specs.declared.operator.Operator.TheVariants as operators
use Rattle.meaning_types.specs.Types.{TypeTree, Typed, IntegerTree, RestrictedTree}
use Rattle.meaning_types.specs.Conversions.{promoted, usual}
use Rattle.meaning_operands.specs.Operands.{Operand, is_restricted}
use Rattle.meaning_operands.specs.Operators.{ResultIdentity, OneIdentity, OwnIdentity, law_of}
use Rattle.meaning_operands.specs.Answers.{is_given_fouled}
use Rattle.meaning_constants.specs.Numbers.{wrapped, truth_of, converted}
use Rattle.meaning_constants.specs.Operations.{operated, operated_alone}

-- An integer constant: its kind, and its number. A fouled one has the number of the promoted kind.
pub record Constant : Type 0 where
  pub kind : IntKind
  pub number : ℤ

-- what is known of a part: its type as a value, whether it is fouled, and the number of its constant
pub record Part : Type 0 where
  pub of : TypeTree
  pub fouled : Bool
  pub number : Option ℤ

-- Integers

-- the kind of an integer type, restricted or not
abbrev pub kind_of : TypeTree → Option IntKind
kind_of (Typed (IntegerTree kind) _ _) = Some kind
kind_of (Typed (RestrictedTree kind identity) _ _) = Some kind
kind_of (Typed base _ _) = None

-- what comes of the kind of an integer; of anything else there is no constant
abbrev pub with_kind : TypeTree → (IntKind → Option Constant) → Option Constant
with_kind (Typed (IntegerTree kind) _ _) next = next kind
with_kind (Typed (RestrictedTree kind identity) _ _) next = next kind
with_kind (Typed base _ _) next = None

-- what comes of a number that is known
abbrev pub with_number : Option ℤ → (ℤ → Option Constant) → Option Constant
with_number None next = None
with_number (Some number) next = next number

-- A number as one of this kind: a fouled one keeps the bits that its restricted type hasn't.
abbrev pub settled : (fouled : Bool) → IntKind → ℤ → Constant
settled fouled kind number = record { kind = kind; number = wrapped (if fouled then promoted kind else kind) number }

abbrev pub settled_if : (fouled : Bool) → IntKind → Option ℤ → Option Constant
settled_if fouled kind None = None
settled_if fouled kind (Some number) = Some (settled fouled kind number)

-- Literals, sizes, casts

-- a literal, by the bits that are read of it (6.4.4)
abbrev pub literal_constant : IntKind → (bits : ℕ) → Option Constant
literal_constant kind bits = Some (settled false kind (pos bits))

-- the most bytes that a size may have: 2^40
abbrev pub most_bytes : ℕ
most_bytes = 1099511627776

-- a size, an alignment or an offset, if there is one (6.5.3.4, 7.19 p3)
abbrev pub size_constant : Option ℕ → Option Constant
size_constant None = None
size_constant (Some bytes) = if nat_le bytes most_bytes then Some (settled false kinds.ULong (pos bytes)) else None

-- an integer that is cast to an integer type (6.5.4); a pointer isn't constant, nor is what becomes one
abbrev pub cast_constant : TypeTree → Part → Option Constant
cast_constant to part =
    with_kind to (λ kind. with_kind part.of (λ source. with_number part.number (λ number. Some (record { kind = kind; number = converted kind number }))))

-- what is in parentheses, or stands for a name: the constant that it has itself
abbrev pub own_constant : Part → Option Constant
own_constant part = with_kind part.of (λ kind. with_number part.number (λ number. Some (record { kind = kind; number = number })))

-- Operators

-- what an operator sees of a part of which it isn't asked whether it is the constant 0
abbrev pub operand_of : Part → Operand
operand_of part = record { of = part.of; fouled = part.fouled; zero = false }

-- the result of this operator is fouled
abbrev pub is_fouled_by : Operator → Part → Part → Bool
is_fouled_by operator left right = is_given_fouled (law_of operator).foul (operand_of left) (operand_of right)

-- the operator keeps one restricted type
abbrev pub keeps_identity : ResultIdentity → Bool
keeps_identity OneIdentity = true
keeps_identity OwnIdentity = true
keeps_identity gives = false

-- The kind of what two operands give: of one that is restricted where the operator keeps its type, the left one first; else
-- the common kind (6.3.1.8).
abbrev pub result_kind : ResultIdentity → (left right : TypeTree) → (kind other : IntKind) → IntKind
result_kind gives left right kind other =
    if keeps_identity gives && is_restricted left then kind
    else (if keeps_identity gives && is_restricted right then other
    else usual kind other)

-- a comparison gives an int (6.5.8 p6, 6.5.9 p3)
abbrev pub is_comparison : Operator → Bool
is_comparison operators.Less = true
is_comparison operators.Greater = true
is_comparison operators.LessOrEqual = true
is_comparison operators.GreaterOrEqual = true
is_comparison operators.Equal = true
is_comparison operators.NotEqual = true
is_comparison operator = false

abbrev pub is_shift : Operator → Bool
is_shift operators.LeftShift = true
is_shift operators.RightShift = true
is_shift operator = false

-- the kind of the result of a binary operator on integers
abbrev pub binary_kind : Operator → (left right : TypeTree) → (kind other : IntKind) → IntKind
binary_kind operator left right kind other =
    if is_comparison operator then kinds.Int
    else (if is_shift operator then promoted kind
    else result_kind (law_of operator).gives left right kind other)

-- A shift is one of the promoted left operand, by a count that is no number of that kind (6.5.7 p3); all others take two
-- numbers of the common kind.
abbrev pub numbers_operated : Operator → (kind other : IntKind) → ℤ → ℤ → Option ℤ
numbers_operated operator kind other left right =
    if is_shift operator then operated operator (promoted kind) left right
    else operated operator (usual kind other) (wrapped (usual kind other) left) (wrapped (usual kind other) right)

-- the constant of a binary operator (6.5.5 to 6.5.12)
abbrev pub binary_constant : Operator → (left right : Part) → Option Constant
binary_constant operator left right =
    with_kind left.of
    (λ kind. with_kind right.of
    (λ other. with_number left.number
    (λ number. with_number right.number
    (λ second. settled_if (is_fouled_by operator left right) (binary_kind operator left.of right.of kind other)
    (numbers_operated operator kind other number second)))))

-- the kind of the result of a unary operator: `~` keeps a restricted type, `!` gives an int (6.5.3.3)
abbrev pub unary_kind : Operator → TypeTree → IntKind → IntKind
unary_kind operators.LogicalNot of kind = kinds.Int
unary_kind operator of kind = if keeps_identity (law_of operator).gives && is_restricted of then kind else promoted kind

-- the constant of a unary operator
abbrev pub unary_constant : Operator → Part → Option Constant
unary_constant operator part =
    with_kind part.of
    (λ kind. with_number part.number
    (λ number. settled_if (is_fouled_by operator part part) (unary_kind operator part.of kind) (operated_alone operator (promoted kind) number)))

-- What isn't evaluated

abbrev pub int_constant : ℤ → Option Constant
int_constant number = Some (record { kind = kinds.Int; number = number })

-- `&&`: a left operand that is 0 decides (6.5.13 p4)
abbrev pub and_constant : (left right : Part) → Option Constant
and_constant left right =
    with_kind left.of (λ kind. with_number left.number
    (λ number. if int_eq number (pos 0) then int_constant (pos 0) else with_kind right.of (λ other. with_number right.number (λ second. int_constant (truth_of second)))))

-- `||`: one that isn't 0 does (6.5.14 p4)
abbrev pub or_constant : (left right : Part) → Option Constant
or_constant left right =
    with_kind left.of (λ kind. with_number left.number
    (λ number. if int_eq number (pos 0) then with_kind right.of (λ other. with_number right.number (λ second. int_constant (truth_of second))) else int_constant (pos 1)))

-- the kind of `?:` with two arms of integer types (6.5.15 p5)
abbrev pub conditional_kind : (second third : Part) → (kind other : IntKind) → IntKind
conditional_kind second third kind other = result_kind (law_of operators.Conditional).gives second.of third.of kind other

-- one of two arms, in the common kind
abbrev pub arm_constant : (arm second third : Part) → Option Constant
arm_constant arm second third =
    with_kind second.of
    (λ kind. with_kind third.of
    (λ other. settled_if (is_fouled_by operators.Conditional second third) (conditional_kind second third kind other) arm.number))

-- `?:`: the first operand tells which of the others is evaluated (6.5.15 p4)
abbrev pub conditional_constant : (condition second third : Part) → Option Constant
conditional_constant condition second third =
    with_kind condition.of (λ kind. with_number condition.number
    (λ number. arm_constant (if int_eq number (pos 0) then third else second) second third))

-- and without a middle operand the first is that, too
abbrev pub conditional_without_middle : (condition third : Part) → Option Constant
conditional_without_middle condition third = conditional_constant condition condition third
