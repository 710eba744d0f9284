-- Expressions (C11 6.5): one row for each kind of node, over what is known of its parts.
use Rattle.std.specs.Prelude.{ℕ, ◌+◌, Bool, true, false, ◌&&◌, ◌||◌, not, is_some, nat_lt, nat_eq, List, [], ◌∷◌, ◌++◌, length, Option, Some, None, if◌then◌else◌}
use Rattle.vocabulary.specs.declared.error_kind.ErrorKind.TheVariants.{CannotDereference, CannotTakeAddress, NotModifiable, CalledObjectIsNoFunction, WrongNumberOfArguments, IncompleteType}
use Rattle.vocabulary.specs.declared.int_kind.IntKind.TheVariants as integers
use Rattle.vocabulary.specs.declared.operator.Operator.TheVariants as operators
use Rattle.vocabulary.specs.declared.rule.RuleCode.{RuleCode}
use Rattle.meaning_types.specs.Types.{TypeTree, Typed, IntegerTree, RestrictedTree, PointerTree, ArrayTree, FunctionTree, TypeTrees, NoTypes, MoreTypes, pointer_to, value_type}
use Rattle.meaning_types.specs.Spaces.{is_void}
use Rattle.meaning_operands.specs.Operands.{is_restricted}
use Rattle.meaning_operands.specs.Answers.{operator_answer}
use Rattle.meaning_operands.specs.Failures.{Failure, Broken}
use Rattle.meaning_typing.specs.Facts.{Fact, Expression, ExpressionFact, Addressed, NotAddress, ConstantPlace, ConstantAddress, value, place, decays, type_of_value, operand_of}
use Rattle.meaning_typing.specs.Specifiers.{plain_type}
use Rattle.meaning_typing.specs.Declarators.{array_type}
use Rattle.meaning_typing.specs.Rows.{Row, Converted, nothing, gives, breaks, breaks_at, void_used, fails_with, converted, not_converted, both_converted}

-- Literals (6.4.4, 6.4.5)

abbrev pub literal_row : TypeTree → Row
literal_row type_ = gives (value type_) [] []

-- an array of so many elements, the last zero among them; it is a constant address itself, and neither what `&` gives of it nor
-- what it gives of an element is one: our choice
abbrev pub string_place : (length : ℕ) → ExpressionFact
string_place length =
    record (place (array_type (plain_type (IntegerTree integers.Char)) (Some length))) { address = ConstantAddress; is_string = true }

abbrev pub string_row : (length : ℕ) → Row
string_row length = gives (string_place length) [] []

-- Unary `*` and `&` (6.5.3.2)

-- the token at which an operator stands, and that of its operand
abbrev pub indirection_of : (token operand : ℕ) → ExpressionFact → TypeTree → Row
indirection_of token operand expression (Typed (PointerTree target) qualifiers flags) = gives (place target) [] []
indirection_of token operand expression type_ = breaks (breaks_at CannotDereference token ++ void_used operand expression)

abbrev pub indirection_row : (token operand : ℕ) → Fact → Row
indirection_row token operand (Expression expression) = indirection_of token operand expression (type_of_value expression)
indirection_row token operand fact = nothing

-- a place that is no bit-field and was not declared `register`
abbrev pub has_address : ExpressionFact → Bool
has_address expression = expression.is_place && not (is_some expression.width) && not expression.is_register

abbrev pub address_taken : Addressed → Addressed
address_taken ConstantPlace = ConstantAddress
address_taken NotAddress = NotAddress
address_taken ConstantAddress = NotAddress

abbrev pub address_row : (token : ℕ) → Fact → Row
address_row token (Expression expression) =
    if has_address expression then gives (record (value (pointer_to expression.type_)) { address = address_taken expression.address }) [] []
    else breaks (breaks_at CannotTakeAddress token)
address_row token fact = nothing

-- Subscripts (6.5.2.1)

abbrev pub is_array : TypeTree → Bool
is_array (Typed (ArrayTree element length) qualifiers flags) = true
is_array (Typed base qualifiers flags) = false

abbrev pub element_address : (constant : Bool) → Addressed → Addressed
element_address true ConstantPlace = ConstantPlace
element_address constant address = NotAddress

-- a place of array type: its elements lie in it
abbrev pub is_array_place : ExpressionFact → Bool
is_array_place expression = expression.is_place && is_array expression.type_

-- an element of a `register` array is one of it, and the address of an element of a constant place with a constant index is constant
abbrev pub element_of : ExpressionFact → (index : ExpressionFact) → (element : TypeTree) → ExpressionFact
element_of array index element =
    record (place element) {
      is_register = is_array_place array && array.is_register;
      address = element_address (is_array_place array && is_some index.constant) array.address;
    }

-- a restricted index counts as a plain one, and is told
abbrev pub index_failures : (token : ℕ) → (left right : ExpressionFact) → Option RuleCode → List Failure
index_failures token left right None = []
index_failures token left right (Some rule) =
    fails_with rule token 0 (Some (if is_restricted (type_of_value left) then type_of_value left else type_of_value right)) None [] ∷ []

abbrev pub element_row : (token : ℕ) → (left right array index : ExpressionFact) → (element : TypeTree) → Row
element_row token left right array index element =
    gives (element_of array index element) []
    (index_failures token left right (operator_answer operators.Subscript (operand_of left) (operand_of right)).rule)

abbrev pub no_element : (token first second : ℕ) → (left right : ExpressionFact) → Row
no_element token first second left right =
    breaks (breaks_at CannotDereference token ++ void_used first left ++ void_used second right)

-- a pointer and an integer, whichever stands first (p2)
abbrev pub subscript_of : (token first second : ℕ) → (left right : ExpressionFact) → (of other : TypeTree) → Row
subscript_of token first second left right (Typed (PointerTree element) _ _) (Typed (IntegerTree kind) _ _) = element_row token left right left right element
subscript_of token first second left right (Typed (PointerTree element) _ _) (Typed (RestrictedTree kind identity) _ _) =
    element_row token left right left right element
subscript_of token first second left right (Typed (IntegerTree kind) _ _) (Typed (PointerTree element) _ _) = element_row token left right right left element
subscript_of token first second left right (Typed (RestrictedTree kind identity) _ _) (Typed (PointerTree element) _ _) =
    element_row token left right right left element
subscript_of token first second left right of other = no_element token first second left right

abbrev pub subscript_row : (token first second : ℕ) → (left right : Fact) → Row
subscript_row token first second (Expression left) (Expression right) =
    subscript_of token first second left right (type_of_value left) (type_of_value right)
subscript_row token first second left right = nothing

-- Assignments (6.5.16.1)

abbrev pub is_const : TypeTree → Bool
is_const (Typed base qualifiers flags) = qualifiers.is_const

-- a place that can be written: neither const, nor an array or a function (6.3.2.1 p1)
abbrev pub is_modifiable : ExpressionFact → Bool
is_modifiable expression = expression.is_place && not (is_const expression.type_) && not (decays expression.type_)

-- what a store to the left side breaks: it isn't modifiable, or its type is incomplete
abbrev pub store_broken : (token : ℕ) → ExpressionFact → List Broken
store_broken token left =
    if not (is_modifiable left) then breaks_at NotModifiable token
    else (if is_void left.type_ then breaks_at IncompleteType token
    else [])

-- the right side becomes a value of the left one's type, where it can be stored
abbrev pub assigned : (token second : ℕ) → (left right : ExpressionFact) → List Broken → Row
assigned token second left right [] =
    gives (value (value_type left.type_)) (converted token 0 second right left.type_).broken (converted token 0 second right left.type_).failures
assigned token second left right (broken ∷ others) = breaks (broken ∷ others ++ void_used second right)

abbrev pub assignment_row : (token second : ℕ) → (left right : Fact) → Row
assignment_row token second (Expression left) (Expression right) = assigned token second left right (store_broken token left)
-- nothing but a conversion is asked of the right side
assignment_row token second (Expression left) right = gives (value (value_type left.type_)) (store_broken token left) []
assignment_row token second left right = nothing

-- Calls (6.5.2.2)

-- an argument: the token at which it stands, and what is known of it
pub record Argument : Type 0 where
  pub token : ℕ
  pub fact : Fact

-- it becomes a value of its parameter's type
abbrev pub passed_as : (part token : ℕ) → Fact → (to : TypeTree) → Converted
passed_as part token (Expression expression) to = converted token part token expression to
passed_as part token fact to = not_converted

-- one that no parameter takes is used
abbrev pub passed_freely : (token : ℕ) → Fact → Converted
passed_freely token (Expression expression) = record { broken = void_used token expression; failures = [] }
passed_freely token fact = not_converted

-- the arguments from this one on, with the parameters that are left for them
abbrev pub arguments_passed : (part : ℕ) → List Argument → TypeTrees → Converted
arguments_passed part [] parameters = not_converted
arguments_passed part (argument ∷ arguments) NoTypes =
    both_converted (passed_freely argument.token argument.fact) (arguments_passed (part + 1) arguments NoTypes)
arguments_passed part (argument ∷ arguments) (MoreTypes parameter parameters) =
    both_converted (passed_as part argument.token argument.fact parameter) (arguments_passed (part + 1) arguments parameters)

abbrev pub type_count : TypeTrees → ℕ
type_count NoTypes = 0
type_count (MoreTypes type_ types) = type_count types + 1

-- as many as there are parameters, or more where more may follow (p2)
abbrev pub takes_arguments : TypeTrees → (variadic : Bool) → (count : ℕ) → Bool
takes_arguments parameters variadic count =
    nat_eq count (type_count parameters) || (variadic && nat_lt (type_count parameters) count)

abbrev pub number_broken : (token : ℕ) → TypeTrees → (variadic : Bool) → List Argument → List Broken
number_broken token parameters variadic arguments =
    if takes_arguments parameters variadic (length arguments) then [] else breaks_at WrongNumberOfArguments token

-- a function is called by its name or through a pointer (p1); the value is that of its result
abbrev pub call_of : (token : ℕ) → List Argument → TypeTree → Option Row
call_of token arguments (Typed (PointerTree (Typed (FunctionTree result parameters variadic) _ _)) _ _) =
    Some
    (gives (value (value_type result)) (number_broken token parameters variadic arguments ++ (arguments_passed 1 arguments parameters).broken)
    (arguments_passed 1 arguments parameters).failures)
call_of token arguments type_ = None

abbrev pub row_or : Option Row → Row → Row
row_or None otherwise = otherwise
row_or (Some row) otherwise = row

abbrev pub call_row : (token called : ℕ) → (callee : Fact) → List Argument → Row
call_row token called (Expression callee) arguments =
    row_or (call_of token arguments (type_of_value callee)) (breaks (breaks_at CalledObjectIsNoFunction token ++ void_used called callee))
call_row token called callee arguments = nothing
