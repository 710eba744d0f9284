-- `?:` (C11 6.5.15): a condition, and two arms of which one is evaluated.
use Rattle.std.specs.Prelude.{ℕ, ℤ, pos, Bool, true, false, ◌||◌, [], ◌++◌, Option, Some, None, is_some, if◌then◌else◌}
use Rattle.std.specs.Ordering.{int_eq}
use Rattle.vocabulary.specs.declared.error_kind.ErrorKind.TheVariants.{VoidValueUsed, WrongOperandTypes, IncompatibleTypes}
use Rattle.vocabulary.specs.declared.int_kind.IntKind.{IntKind}
use Rattle.vocabulary.specs.declared.operator.Operator.TheVariants as operators
use Rattle.meaning_types.specs.Types.{TypeTree, VoidTree}
use Rattle.meaning_types.specs.Equality.{are_same}
use Rattle.meaning_typing.specs.Facts.{Fact, Unknown, Expression, ExpressionFact, Addressed, NotAddress, ConstantAddress, value, type_of_value, operand_of}
use Rattle.meaning_typing.specs.Specifiers.{plain_type}
use Rattle.meaning_typing.specs.Rows.{Row, nothing, gives, breaks, breaks_at, unless_broken}
use Rattle.meaning_typing.specs.Operators.{ValueSort, VoidSort, IntegerSort, PointerSort, value_sort, value_address, integers_type, given_by, answer_of, operands_failures, unlike, are_unlike, pointer_meets, points_to_void, meet_as_pointers, condition_broken, condition_failures}

-- Address constants (6.6 p9)

-- a constant may begin a static object: a number, a null pointer, or an address
abbrev pub is_address : Addressed → Bool
is_address ConstantAddress = true
is_address address = false

abbrev pub is_constant : ExpressionFact → Bool
is_constant expression = is_some expression.constant || (expression.is_null || is_address (value_address expression))

abbrev pub address_if : Bool → Addressed
address_if is_constant = if is_constant then ConstantAddress else NotAddress

-- the arm that a constant condition chooses may be one
abbrev pub chosen_address : Option ℤ → (left right : ExpressionFact) → Addressed
chosen_address None left right = NotAddress
chosen_address (Some number) left right = address_if (is_constant (if int_eq number (pos 0) then right else left))

-- Arms

abbrev pub arm_given : (condition : Option ℤ) → (left right : ExpressionFact) → TypeTree → ExpressionFact
arm_given condition left right type_ = record (given_by operators.Conditional left right type_) { address = chosen_address condition left right }

-- Beside a null pointer constant the other one's type is given, beside a pointer to void that one's (p6)
abbrev pub pointers_type : (left right : ExpressionFact) → TypeTree
pointers_type left right =
    if right.is_null then type_of_value left
    else (if left.is_null then type_of_value right
    else (if points_to_void (type_of_value left) then type_of_value left
    else (if points_to_void (type_of_value right) then type_of_value right
    else type_of_value left)))

abbrev pub pointer_arms : (condition : Option ℤ) → (token : ℕ) → (left right : ExpressionFact) → Row
pointer_arms condition token left right =
    if are_unlike left right
    then gives (arm_given condition left right (pointers_type left right)) [] (unlike token (type_of_value left) (type_of_value right))
    else (if meet_as_pointers left right then gives (arm_given condition left right (pointers_type left right)) [] []
    else breaks (breaks_at WrongOperandTypes token))

-- a pointer beside the constant 0 gives its type, beside another integer the left arm does (our choice)
abbrev pub pointer_and_integer : (condition : Option ℤ) → (token : ℕ) → (left right pointer : ExpressionFact) → (zero : Bool) → Row
pointer_and_integer condition token left right pointer zero =
    gives (arm_given condition left right (if zero then type_of_value pointer else type_of_value left)) []
    (pointer_meets token (type_of_value left) (type_of_value right) zero)

-- an aggregate beside itself
abbrev pub aggregate_arms : (condition : Option ℤ) → (token : ℕ) → (left right : ExpressionFact) → Row
aggregate_arms condition token left right =
    if are_same (type_of_value left) (type_of_value right) then gives (arm_given condition left right (type_of_value left)) [] []
    else breaks (breaks_at IncompatibleTypes token)

abbrev pub integer_arms : (condition : Option ℤ) → (token : ℕ) → (left right : ExpressionFact) → (kind other : IntKind) → Row
integer_arms condition token left right kind other =
    gives (arm_given condition left right (integers_type operators.Conditional (type_of_value left) (type_of_value right) kind other)) []
    (operands_failures token (type_of_value left) (type_of_value right) (answer_of operators.Conditional left right).rule)

-- by what the arms are; of one that is void nothing but that is told
abbrev pub arms_of : (condition : Option ℤ) → (token second third : ℕ) → (left right : ExpressionFact) → (of other : ValueSort) → Row
arms_of condition token second third left right VoidSort VoidSort = gives (value (plain_type VoidTree)) [] []
arms_of condition token second third left right VoidSort other = breaks (breaks_at VoidValueUsed second)
arms_of condition token second third left right of VoidSort = breaks (breaks_at VoidValueUsed third)
arms_of condition token second third left right (IntegerSort kind) (IntegerSort other) = integer_arms condition token left right kind other
arms_of condition token second third left right PointerSort PointerSort = pointer_arms condition token left right
arms_of condition token second third left right PointerSort (IntegerSort other) =
    pointer_and_integer condition token left right left (operand_of right).zero
arms_of condition token second third left right (IntegerSort kind) PointerSort =
    pointer_and_integer condition token left right right (operand_of left).zero
arms_of condition token second third left right of other = aggregate_arms condition token left right

abbrev pub arms_row : (condition : Option ℤ) → (token second third : ℕ) → (left right : Fact) → Row
arms_row condition token second third (Expression left) (Expression right) =
    arms_of condition token second third left right (value_sort left) (value_sort right)
arms_row condition token second third left right = nothing

-- `?:`

-- the condition is tested besides, at the `?`
abbrev pub with_condition : (token first : ℕ) → ExpressionFact → Row → Row
with_condition token first condition row =
    record row {
      fact = unless_broken (condition_broken first (value_sort condition)) row.fact;
      broken = condition_broken first (value_sort condition) ++ row.broken;
      failures = row.failures ++ condition_failures token condition;
    }

abbrev pub conditional_row : (token first second third : ℕ) → (condition left right : Fact) → Row
conditional_row token first second third (Expression condition) left right =
    with_condition token first condition (arms_row condition.constant token second third left right)
conditional_row token first second third condition left right = record (arms_row None token second third left right) { fact = Unknown }

-- without a middle operand the condition is that too, and is evaluated once (our choice, as in GNU C)
abbrev pub conditional_without_middle : (token first third : ℕ) → (condition right : Fact) → Row
conditional_without_middle token first third condition right = conditional_row token first first third condition condition right
