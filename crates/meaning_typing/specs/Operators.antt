-- Operators that make a value of values (C11 6.5.3.3, 6.5.5 to 6.5.14, 6.5.17): a row for each sort of operands that their
-- laws take.
use Rattle.std.specs.Prelude.{ℕ, Bool, true, false, ◌&&◌, ◌||◌, not, is_some, List, [], ◌∷◌, ◌++◌, Option, Some, None, Result, Ok, Err, if◌then◌else◌}
use Rattle.vocabulary.specs.declared.error_kind.ErrorKind.{ErrorKind}
use Rattle.vocabulary.specs.declared.error_kind.ErrorKind.TheVariants.{WrongOperandTypes, VoidValueUsed, IncompleteType, IncompatibleTypes, ConditionIsNotScalar}
use Rattle.vocabulary.specs.declared.int_kind.IntKind.{IntKind}
use Rattle.vocabulary.specs.declared.int_kind.IntKind.TheVariants as integers
use Rattle.vocabulary.specs.declared.operator.Operator.{Operator}
use Rattle.vocabulary.specs.declared.operator.Operator.TheVariants as operators
use Rattle.vocabulary.specs.declared.rule.RuleCode.{RuleCode}
use Rattle.vocabulary.specs.declared.rule.RuleCode.TheVariants.{A3, B2, B5, N1}
use Rattle.meaning_types.specs.Types.{TypeTree, Typed, VoidTree, IntegerTree, RestrictedTree, PointerTree, without_flags}
use Rattle.meaning_types.specs.Conversions.{promoted}
use Rattle.meaning_types.specs.Equality.{are_same}
use Rattle.meaning_types.specs.Spaces.{is_void, mix_spaces, have_other_targets}
use Rattle.meaning_layout.specs.Layouts.{LayoutFault, Incomplete, TooLarge}
use Rattle.meaning_layout.specs.Sizes.{Extent, Told, extent_of}
use Rattle.meaning_operands.specs.Operands.{is_restricted}
use Rattle.meaning_operands.specs.Operators.{Operands, IntegerOperands, SumOperands, DifferenceOperands, ComparedOperands, law_of}
use Rattle.meaning_operands.specs.Answers.{OperatorAnswer, operator_answer}
use Rattle.meaning_operands.specs.Failures.{Failure, Broken}
use Rattle.meaning_constants.specs.Constants.{binary_kind, keeps_identity}
use Rattle.meaning_typing.specs.Facts.{Fact, Expression, ExpressionFact, Addressed, NotAddress, ConstantPlace, ConstantAddress, value, decays, type_of_value, operand_of}
use Rattle.meaning_typing.specs.Specifiers.{plain_type}
use Rattle.meaning_typing.specs.Declarators.{is_function}
use Rattle.meaning_typing.specs.Rows.{Row, nothing, gives, breaks, breaks_at, void_used, fails_with}

-- Values

-- what a value is to an operator (6.2.5 p17 to p21)
pub data ValueSort : Type 0 where
  VoidSort : ValueSort
  -- of this kind, restricted or not
  IntegerSort : IntKind → ValueSort
  PointerSort : ValueSort
  -- a structure or a union, or a type that no value has
  OtherSort : ValueSort

abbrev pub sort_of : TypeTree → ValueSort
sort_of (Typed VoidTree _ _) = VoidSort
sort_of (Typed (IntegerTree kind) _ _) = IntegerSort kind
sort_of (Typed (RestrictedTree kind identity) _ _) = IntegerSort kind
sort_of (Typed (PointerTree target) _ _) = PointerSort
sort_of (Typed base _ _) = OtherSort

abbrev pub value_sort : ExpressionFact → ValueSort
value_sort expression = sort_of (type_of_value expression)

-- the type of an integer of this kind that isn't restricted
abbrev pub integer : IntKind → TypeTree
integer kind = plain_type (IntegerTree kind)

-- Constraints

-- void operands, which stand at their own tokens
abbrev pub void_among : (first second : ℕ) → (left right : ValueSort) → List Broken
void_among first second VoidSort VoidSort = breaks_at VoidValueUsed first ++ breaks_at VoidValueUsed second
void_among first second VoidSort right = breaks_at VoidValueUsed first
void_among first second left VoidSort = breaks_at VoidValueUsed second
void_among first second left right = []

abbrev pub void_alone : (operand : ℕ) → ValueSort → List Broken
void_alone operand VoidSort = breaks_at VoidValueUsed operand
void_alone operand of = []

-- what is told only where nothing else is
abbrev pub or_else : (broken otherwise : List Broken) → List Broken
or_else [] otherwise = otherwise
or_else (broken ∷ others) otherwise = broken ∷ others

-- operands that an operator doesn't take: of a void one nothing but that is told
abbrev pub not_taken : ErrorKind → (token first second : ℕ) → (left right : ValueSort) → List Broken
not_taken constraint token first second left right = or_else (void_among first second left right) (breaks_at constraint token)

-- where a part isn't known, this alone is told of the other one
abbrev pub one_known : (operand : ℕ) → ExpressionFact → Row
one_known operand expression = breaks (void_used operand expression)

-- Completeness: void and a function count as one byte (our choice)

abbrev pub is_incomplete : Result Extent LayoutFault → Bool
is_incomplete (Ok extent) = false
is_incomplete (Err Incomplete) = true
is_incomplete (Err TooLarge) = false

abbrev pub has_no_size : Told → TypeTree → Bool
has_no_size told type_ = not (is_void type_ || is_function type_) && is_incomplete (extent_of told type_)

-- elements to which a pointer is moved have a size (6.5.6 p2)
abbrev pub target_broken : Told → (token : ℕ) → TypeTree → List Broken
target_broken told token (Typed (PointerTree target) _ _) = if has_no_size told target then breaks_at IncompleteType token else []
target_broken told token (Typed base _ _) = []

-- Failures

-- the first restricted one of two
abbrev pub restricted_among : (left right : TypeTree) → TypeTree
restricted_among left right = if is_restricted left then left else right

-- the rule that two operands break: unlike ones are told both, else the first restricted one is
abbrev pub operands_failures : (token : ℕ) → (left right : TypeTree) → Option RuleCode → List Failure
operands_failures token left right None = []
operands_failures token left right (Some B2) = fails_with B2 token 0 (Some left) (Some right) [] ∷ []
operands_failures token left right (Some rule) = fails_with rule token 0 (Some (restricted_among left right)) None [] ∷ []

-- a fouled operand is compared or tested
abbrev pub tested_failures : (token : ℕ) → (left right : TypeTree) → Bool → List Failure
tested_failures token left right tested = if tested then fails_with B5 token 0 (Some (restricted_among left right)) None [] ∷ [] else []

abbrev pub law_failures : (token : ℕ) → (left right : TypeTree) → OperatorAnswer → List Failure
law_failures token left right answer = operands_failures token left right answer.rule ++ tested_failures token left right answer.tested

-- Beside a pointer one of both fails at most: an order asks for plain operands, and an equality tests them.
abbrev pub failures_if : (token : ℕ) → (left right : TypeTree) → Option RuleCode → (tested : Bool) → List Failure
failures_if token left right None tested = tested_failures token left right tested
failures_if token left right (Some rule) tested = operands_failures token left right (Some rule)

abbrev pub failures_beside_pointer : (token : ℕ) → (left right : TypeTree) → OperatorAnswer → List Failure
failures_beside_pointer token left right answer = failures_if token left right answer.rule answer.tested

-- two that are unlike meet
abbrev pub unlike : (token : ℕ) → (left right : TypeTree) → List Failure
unlike token left right = fails_with A3 token 0 (Some left) (Some right) [] ∷ []

-- a pointer meets an integer: the constant 0 becomes a null pointer
abbrev pub pointer_meets : (token : ℕ) → (left right : TypeTree) → (zero : Bool) → List Failure
pointer_meets token left right zero = if zero then fails_with N1 token 0 None None [] ∷ [] else unlike token left right

-- a null pointer constant of type `void *` is unlike no pointer
abbrev pub are_unlike : (left right : ExpressionFact) → Bool
are_unlike left right =
    not (left.is_null || right.is_null)
    && (mix_spaces (type_of_value left) (type_of_value right) || have_other_targets (type_of_value left) (type_of_value right))

-- The law of an operator

abbrev pub answer_of : Operator → (left right : ExpressionFact) → OperatorAnswer
answer_of operator left right = operator_answer operator (operand_of left) (operand_of right)

-- a value of this type, with the mark that the law gives
abbrev pub given_by : Operator → (left right : ExpressionFact) → TypeTree → ExpressionFact
given_by operator left right type_ = record (value type_) { is_fouled = (answer_of operator left right).fouled }

-- One operand (6.5.3.3)

abbrev pub integer_type : Operator → TypeTree → IntKind → TypeTree
integer_type operator type_ kind = if keeps_identity (law_of operator).gives && is_restricted type_ then type_ else integer (promoted kind)

abbrev pub unary_of : Operator → (token operand : ℕ) → ExpressionFact → ValueSort → Row
unary_of operator token operand expression (IntegerSort kind) =
    gives (given_by operator expression expression (integer_type operator (type_of_value expression) kind)) []
    (operands_failures token (type_of_value expression) (type_of_value expression) (answer_of operator expression expression).rule)
unary_of operator token operand expression of = breaks (or_else (void_alone operand of) (breaks_at WrongOperandTypes token))

-- unary `+`, `-` and `~`
abbrev pub unary_row : Operator → (token operand : ℕ) → Fact → Row
unary_row operator token operand (Expression expression) = unary_of operator token operand expression (value_sort expression)
unary_row operator token operand fact = nothing

-- Two integers

-- the type of one that is restricted where the operator keeps it, the left one first; else that of the kind (6.3.1.8)
abbrev pub integers_type : Operator → (left right : TypeTree) → (kind other : IntKind) → TypeTree
integers_type operator left right kind other =
    if keeps_identity (law_of operator).gives && is_restricted left then left
    else (if keeps_identity (law_of operator).gives && is_restricted right then right
    else integer (binary_kind operator left right kind other))

abbrev pub integers_row : Operator → (token : ℕ) → (left right : ExpressionFact) → (kind other : IntKind) → Row
integers_row operator token left right kind other =
    gives (given_by operator left right (integers_type operator (type_of_value left) (type_of_value right) kind other)) []
    (law_failures token (type_of_value left) (type_of_value right) (answer_of operator left right))

-- `*`, `/`, `%`, `<<`, `>>`, `&`, `^` and `|`
abbrev pub arithmetic_of : Operator → (token first second : ℕ) → (left right : ExpressionFact) → (of other : ValueSort) → Row
arithmetic_of operator token first second left right (IntegerSort kind) (IntegerSort other) = integers_row operator token left right kind other
arithmetic_of operator token first second left right of other = breaks (not_taken WrongOperandTypes token first second of other)

-- Sums and differences (6.5.6)

-- its value is a constant address: it is one itself, or the array or function that it designates stands at one
abbrev pub address_of_value : Addressed → (decays : Bool) → Addressed
address_of_value ConstantPlace true = ConstantAddress
address_of_value ConstantPlace false = NotAddress
address_of_value ConstantAddress decays = ConstantAddress
address_of_value NotAddress decays = NotAddress

abbrev pub value_address : ExpressionFact → Addressed
value_address expression = address_of_value expression.address (decays expression.type_)

-- a constant address that is moved by a constant is one
abbrev pub moved_address : Addressed → (constant : Bool) → Addressed
moved_address ConstantAddress true = ConstantAddress
moved_address address constant = NotAddress

-- a pointer that is moved by an integer, which are the operands in either order
abbrev pub moved_row : Told → Operator → (token : ℕ) → (left right pointer count : ExpressionFact) → Row
moved_row told operator token left right pointer count =
    gives (record (value (type_of_value pointer)) { address = moved_address (value_address pointer) (is_some count.constant) })
    (target_broken told token (type_of_value pointer))
    (operands_failures token (type_of_value left) (type_of_value right) (answer_of operator left right).rule)

abbrev pub addition_of : Told → (token first second : ℕ) → (left right : ExpressionFact) → (of other : ValueSort) → Row
addition_of told token first second left right (IntegerSort kind) (IntegerSort other) = integers_row operators.Addition token left right kind other
addition_of told token first second left right PointerSort (IntegerSort other) = moved_row told operators.Addition token left right left right
addition_of told token first second left right (IntegerSort kind) PointerSort = moved_row told operators.Addition token left right right left
addition_of told token first second left right of other = breaks (not_taken WrongOperandTypes token first second of other)

-- of two pointers that aren't unlike, the targets are the same but for flags
abbrev pub difference_row : Told → (token : ℕ) → (left right : ExpressionFact) → Row
difference_row told token left right =
    if are_unlike left right || are_same (without_flags (type_of_value left)) (without_flags (type_of_value right))
    then gives (value (integer integers.Long))
    (target_broken told token (type_of_value left) ++ target_broken told token (type_of_value right))
    (if are_unlike left right then unlike token (type_of_value left) (type_of_value right) else [])
    else breaks (breaks_at WrongOperandTypes token)

-- a pointer is taken from an integer: 0 is no null pointer here
abbrev pub pointer_taken : (token : ℕ) → (left right : ExpressionFact) → (zero : Bool) → Row
pointer_taken token left right true = breaks (breaks_at WrongOperandTypes token)
pointer_taken token left right false =
    gives (value (integer integers.Long)) []
    (unlike token (type_of_value left) (type_of_value right)
    ++ operands_failures token (type_of_value left) (type_of_value right) (answer_of operators.Subtraction left right).rule)

abbrev pub subtraction_of : Told → (token first second : ℕ) → (left right : ExpressionFact) → (of other : ValueSort) → Row
subtraction_of told token first second left right (IntegerSort kind) (IntegerSort other) = integers_row operators.Subtraction token left right kind other
subtraction_of told token first second left right PointerSort (IntegerSort other) = moved_row told operators.Subtraction token left right left right
subtraction_of told token first second left right PointerSort PointerSort = difference_row told token left right
subtraction_of told token first second left right (IntegerSort kind) PointerSort = pointer_taken token left right (operand_of left).zero
subtraction_of told token first second left right of other = breaks (not_taken WrongOperandTypes token first second of other)

-- Comparisons (6.5.8, 6.5.9): an order takes the pointers that an equality takes (our choice)

abbrev pub points_to_void : TypeTree → Bool
points_to_void (Typed (PointerTree target) _ _) = is_void target
points_to_void (Typed base _ _) = false

abbrev pub points_to_function : TypeTree → Bool
points_to_function (Typed (PointerTree target) _ _) = is_function target
points_to_function (Typed base _ _) = false

-- a pointer to a function and one to void are compared only where one is a null pointer constant (6.5.9 p2)
abbrev pub meet_as_pointers : (left right : ExpressionFact) → Bool
meet_as_pointers left right =
    (left.is_null || right.is_null)
    || (not (points_to_void (type_of_value left) && points_to_function (type_of_value right))
    && not (points_to_function (type_of_value left) && points_to_void (type_of_value right)))

abbrev pub compared_pointers : (token : ℕ) → (left right : ExpressionFact) → Row
compared_pointers token left right =
    if are_unlike left right then gives (value (integer integers.Int)) [] (unlike token (type_of_value left) (type_of_value right))
    else (if meet_as_pointers left right then gives (value (integer integers.Int)) [] []
    else breaks (breaks_at WrongOperandTypes token))

abbrev pub compared_with_integer : Operator → (token : ℕ) → (left right : ExpressionFact) → (zero : Bool) → Row
compared_with_integer operator token left right zero =
    gives (value (integer integers.Int)) []
    (pointer_meets token (type_of_value left) (type_of_value right) zero
    ++ failures_beside_pointer token (type_of_value left) (type_of_value right) (answer_of operator left right))

-- an aggregate meets another type, or itself, which isn't compared either
abbrev pub meeting_fault : (left right : TypeTree) → ErrorKind
meeting_fault left right = if are_same left right then WrongOperandTypes else IncompatibleTypes

abbrev pub comparison_of : Operator → (token first second : ℕ) → (left right : ExpressionFact) → (of other : ValueSort) → Row
comparison_of operator token first second left right (IntegerSort kind) (IntegerSort other) = integers_row operator token left right kind other
comparison_of operator token first second left right PointerSort PointerSort = compared_pointers token left right
comparison_of operator token first second left right PointerSort (IntegerSort other) = compared_with_integer operator token left right (operand_of right).zero
comparison_of operator token first second left right (IntegerSort kind) PointerSort = compared_with_integer operator token left right (operand_of left).zero
comparison_of operator token first second left right of other =
    breaks (not_taken (meeting_fault (type_of_value left) (type_of_value right)) token first second of other)

-- All of them, by what their laws take

abbrev pub binary_by : Operands → Told → Operator → (token first second : ℕ) → (left right : ExpressionFact) → (of other : ValueSort) → Row
binary_by IntegerOperands told operator token first second left right of other = arithmetic_of operator token first second left right of other
binary_by SumOperands told operator token first second left right of other = addition_of told token first second left right of other
binary_by DifferenceOperands told operator token first second left right of other = subtraction_of told token first second left right of other
binary_by ComparedOperands told operator token first second left right of other = comparison_of operator token first second left right of other
binary_by operands told operator token first second left right of other = nothing

abbrev pub binary_row : Told → Operator → (token first second : ℕ) → (left right : Fact) → Row
binary_row told operator token first second (Expression left) (Expression right) =
    binary_by (law_of operator).operands told operator token first second left right (value_sort left) (value_sort right)
binary_row told operator token first second (Expression left) right = one_known first left
binary_row told operator token first second left (Expression right) = one_known second right
binary_row told operator token first second left right = nothing

-- Tests: `!`, `&&`, `||` and conditions (6.5.3.3 p1, 6.5.13, 6.5.14)

abbrev pub condition_broken : (operand : ℕ) → ValueSort → List Broken
condition_broken operand VoidSort = breaks_at VoidValueUsed operand
condition_broken operand (IntegerSort kind) = []
condition_broken operand PointerSort = []
condition_broken operand OtherSort = breaks_at ConditionIsNotScalar operand

-- by the law of `!`, which is that of any condition
abbrev pub condition_failures : (token : ℕ) → ExpressionFact → List Failure
condition_failures token expression =
    tested_failures token (type_of_value expression) (type_of_value expression) (answer_of operators.LogicalNot expression expression).tested

abbrev pub not_row : (token operand : ℕ) → Fact → Row
not_row token operand (Expression expression) =
    gives (value (integer integers.Int)) (condition_broken operand (value_sort expression)) (condition_failures token expression)
not_row token operand fact = nothing

-- `&&` and `||`
abbrev pub logical_row : Operator → (token first second : ℕ) → (left right : Fact) → Row
logical_row operator token first second (Expression left) (Expression right) =
    gives (value (integer integers.Int)) (condition_broken first (value_sort left) ++ condition_broken second (value_sort right))
    (tested_failures token (type_of_value left) (type_of_value right) (answer_of operator left right).tested)
logical_row operator token first second (Expression left) right = breaks (condition_broken first (value_sort left))
logical_row operator token first second left (Expression right) = breaks (condition_broken second (value_sort right))
logical_row operator token first second left right = nothing

-- The last of several values (6.5.17): its own, with its mark

abbrev pub kept : ExpressionFact → ExpressionFact
kept expression = record (value (type_of_value expression)) { is_fouled = expression.is_fouled }

-- of the operands of a comma nothing is asked
abbrev pub comma_row : (right : Fact) → Row
comma_row (Expression right) = gives (kept right) [] []
comma_row right = nothing

-- a statement expression has the value of its last statement, if that is an expression
abbrev pub statement_expression_row : (last : Option Fact) → Row
statement_expression_row None = gives (value (plain_type VoidTree)) [] []
statement_expression_row (Some last) = comma_row last
