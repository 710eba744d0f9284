-- Casts, sizes and hints (C11 6.5.3.4, 6.5.4): what is asked of a type that is named, or of an operand that isn't evaluated.
use Rattle.std.specs.Prelude.{ℕ, ℤ, Bool, true, false, ◌&&◌, not, nat_lt, List, [], ◌∷◌, ◌++◌, Option, Some, None, if◌then◌else◌}
use Rattle.std.specs.List.{list_any, flat_map}
use Rattle.std.specs.Ordering.{int_eq}
use Rattle.vocabulary.specs.declared.error_kind.ErrorKind.TheVariants.{BadCast, IncompleteType, BadBitField}
use Rattle.vocabulary.specs.declared.int_kind.IntKind.{IntKind}
use Rattle.vocabulary.specs.declared.int_kind.IntKind.TheVariants as integers
use Rattle.vocabulary.specs.declared.node_kind.NodeKind.{NodeKind}
use Rattle.vocabulary.specs.declared.node_kind.NodeKind.TheVariants as kinds
use Rattle.vocabulary.specs.declared.rule.RuleCode.TheVariants.{A5, A6, B4, S8}
use Rattle.meaning_types.specs.Types.{Space, Qualifiers, TypeTree, Typed, IntegerTree, PointerTree, flags_of, is_space, has_flag, value_type}
use Rattle.meaning_types.specs.Equality.{are_equal_spaces}
use Rattle.meaning_types.specs.Ranges.{width}
use Rattle.meaning_layout.specs.Sizes.{Told}
use Rattle.meaning_constants.specs.Numbers.{converted}
use Rattle.meaning_constants.specs.Constants.{settled}
use Rattle.meaning_operands.specs.Operands.{identity_of, are_one_identity}
use Rattle.meaning_operands.specs.Failures.{Failure, Broken}
use Rattle.meaning_typing.specs.Units.{UnitNodes, kind_at, children_at, child_at}
use Rattle.meaning_typing.specs.Facts.{Fact, Expression, NamedType, ExpressionFact, value, type_of_value, operand_of, is_zero_number}
use Rattle.meaning_typing.specs.Specifiers.{attributes_among}
use Rattle.meaning_typing.specs.Declarators.{is_plain_void}
use Rattle.meaning_typing.specs.Rows.{Row, nothing, gives, breaks, breaks_at, fails_with, both_converted}
use Rattle.meaning_typing.specs.Rows as rows
use Rattle.meaning_typing.specs.Expressions.{passed_as}
use Rattle.meaning_typing.specs.Operators.{ValueSort, VoidSort, IntegerSort, PointerSort, OtherSort, sort_of, value_sort, integer, has_no_size}
use Rattle.meaning_typing.specs.Conditionals.{address_if, is_constant}

-- `force`: among the specifiers of a type name, and in the parts of its declarator, but not in a parameter list or a typedef

abbrev pub is_force : NodeKind → Bool
is_force kinds.ForceAttribute = true
is_force kind = false

abbrev pub attributes_in_name : UnitNodes → (name : ℕ) → List ℕ
attributes_in_name nodes name =
    attributes_among nodes (children_at nodes (child_at nodes name 0))
    ++ flat_map (λ part. attributes_among nodes (children_at nodes part)) (children_at nodes (child_at nodes name 1))

abbrev pub is_forced : UnitNodes → (name : ℕ) → Bool
is_forced nodes name = list_any (λ attribute. is_force (kind_at nodes attribute)) (attributes_in_name nodes name)

-- Address spaces

-- the space of what a pointer points to
abbrev pub space_behind : TypeTree → Option Space
space_behind (Typed (PointerTree target) _ _) = Some (flags_of target).space
space_behind (Typed base _ _) = None

-- an unsigned long keeps a space
abbrev pub keeps_address : TypeTree → Bool
keeps_address (Typed (IntegerTree integers.ULong) _ _) = true
keeps_address (Typed base _ _) = false

-- an integer of another type loses a space, and a pointer with another one, or none, does
abbrev pub removes_space : Space → (to : TypeTree) → Option Space → Bool
removes_space space to None = is_space space && not (keeps_address to)
removes_space space to (Some other) = is_space space && not (are_equal_spaces space other)

abbrev pub adds_space : Space → Option Space → Bool
adds_space space None = false
adds_space space (Some other) = not (is_space space) && is_space other

abbrev pub space_failures : (token : ℕ) → (from to : TypeTree) → Option Space → List Failure
space_failures token from to None = []
space_failures token from to (Some space) =
    if removes_space space to (space_behind to) then fails_with A5 token 0 (Some from) None [] ∷ []
    else (if adds_space space (space_behind to) then fails_with A6 token 0 (Some to) None [] ∷ []
    else [])

-- Restricted types: a cast leads from one to itself, or to one from the constant 0

abbrev pub leaves_identity : (zero : Bool) → (from to : TypeTree) → Bool
leaves_identity zero from to = not zero && not (are_one_identity (identity_of from) (identity_of to))

abbrev pub identity_failures : (token : ℕ) → (zero : Bool) → (from to : TypeTree) → List Failure
identity_failures token zero from to =
    if leaves_identity zero from to then fails_with B4 token 0 (Some from) (Some to) [] ∷ [] else []

-- Constants: fewer bits may make another number of one

-- the number that it becomes, and what that is in the type from which it comes
abbrev pub comes_back : (fouled : Bool) → (from : IntKind) → ℤ → (became : ℤ) → Bool
comes_back fouled from number became = int_eq (settled fouled from became).number number

abbrev pub truncation : (token : ℕ) → (number became : ℤ) → Failure
truncation token number became = record (fails_with S8 token 0 None None []) { number = number; wanted = became }

abbrev pub truncated_to : (token : ℕ) → (fouled : Bool) → (from to : IntKind) → ℤ → List Failure
truncated_to token fouled from to number =
    if nat_lt (width to) (width from) && not (comes_back fouled from number (converted to number))
    then truncation token number (converted to number) ∷ []
    else []

abbrev pub constant_failures : (token : ℕ) → ExpressionFact → (from : IntKind) → (to : ValueSort) → Option ℤ → List Failure
constant_failures token expression from (IntegerSort to) (Some number) = truncated_to token expression.is_fouled from to number
constant_failures token expression from to number = []

-- Rows

-- `void *` itself, of which a cast of the constant 0 is a null pointer constant (6.3.2.3 p3)
abbrev pub is_unqualified : Qualifiers → Bool
is_unqualified qualifiers = not qualifiers.is_const && not qualifiers.is_volatile

abbrev pub is_void_pointer : TypeTree → Bool
is_void_pointer (Typed (PointerTree target) qualifiers flags) = is_plain_void target && is_unqualified qualifiers && not (has_flag flags)
is_void_pointer (Typed base qualifiers flags) = false

abbrev pub is_integer_sort : ValueSort → Bool
is_integer_sort (IntegerSort kind) = true
is_integer_sort of = false

abbrev pub cast_fact : (to : TypeTree) → ExpressionFact → ExpressionFact
cast_fact to expression =
    record (value (value_type to)) {
      is_null = is_void_pointer to && is_integer_sort (value_sort expression) && is_zero_number expression.constant;
      address = address_if (is_constant expression);
    }

-- `force` keeps all but the truncation of a constant silent
abbrev pub unless_forced : (forced : Bool) → List Failure → List Failure
unless_forced forced failures = if forced then [] else failures

-- by what is cast, where a scalar type is named
abbrev pub scalar_cast : (token : ℕ) → (forced : Bool) → (to : TypeTree) → ExpressionFact → (from target : ValueSort) → Row
scalar_cast token forced to expression (IntegerSort kind) target =
    gives (cast_fact to expression) []
    (unless_forced forced (identity_failures token (operand_of expression).zero (type_of_value expression) to)
    ++ constant_failures token expression kind target expression.constant)
scalar_cast token forced to expression PointerSort target =
    gives (cast_fact to expression) []
    (unless_forced forced
    (space_failures token (type_of_value expression) to (space_behind (type_of_value expression))
    ++ identity_failures token false (type_of_value expression) to))
scalar_cast token forced to expression from target = breaks (breaks_at BadCast token)

-- to void from anything, else between scalar types (6.5.4 p2)
abbrev pub cast_of : (token : ℕ) → (forced : Bool) → (to : TypeTree) → ExpressionFact → (target : ValueSort) → Row
cast_of token forced to expression VoidSort = gives (value (value_type to)) [] []
cast_of token forced to expression OtherSort = breaks (breaks_at BadCast token)
cast_of token forced to expression target = scalar_cast token forced to expression (value_sort expression) target

-- a type that nothing can be cast to is told of any operand
abbrev pub cast_unknown : (token : ℕ) → (target : ValueSort) → Row
cast_unknown token OtherSort = breaks (breaks_at BadCast token)
cast_unknown token target = nothing

abbrev pub cast_row : (token : ℕ) → (forced : Bool) → (name operand : Fact) → Row
cast_row token forced (NamedType to) (Expression expression) = cast_of token forced to expression (sort_of to)
cast_row token forced (NamedType to) operand = cast_unknown token (sort_of to)
cast_row token forced name operand = nothing

-- `sizeof` and `_Alignof` (6.5.3.4 p1): of a complete type, where void and a function count, and of no bit-field

abbrev pub measured_broken : Told → (token : ℕ) → TypeTree → (width : Option ℕ) → List Broken
measured_broken told token type_ (Some width) = breaks_at BadBitField token
measured_broken told token type_ None = if has_no_size told type_ then breaks_at IncompleteType token else []

abbrev pub measured : Told → (token : ℕ) → TypeTree → (width : Option ℕ) → Row
measured told token type_ width = gives (value (integer integers.ULong)) (measured_broken told token type_ width) []

abbrev pub sizeof_row : Told → (token : ℕ) → Fact → Row
sizeof_row told token (Expression expression) = measured told token expression.type_ expression.width
sizeof_row told token (NamedType type_) = measured told token type_ None
sizeof_row told token fact = nothing

-- `__builtin_expect`: both operands become longs, as arguments of a function

abbrev pub expected_long : (part token : ℕ) → Fact → rows.Converted
expected_long part token fact = passed_as part token fact (integer integers.Long)

abbrev pub expect_row : (first second : ℕ) → (left right : Fact) → Row
expect_row first second left right =
    gives (value (integer integers.Long)) (both_converted (expected_long 1 first left) (expected_long 2 second right)).broken
    (both_converted (expected_long 1 first left) (expected_long 2 second right)).failures
