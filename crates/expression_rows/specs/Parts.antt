-- Rows by what is asked of the parts.
use Rattle.std.specs.Prelude.{ℕ, Bool, ◌&&◌, not, is_some, List, [], ◌∷◌, ◌++◌, Option, Some, None, IfSome, if◌then◌else◌}
use Rattle.vocabulary.specs.declared.error_kind.ErrorKind.TheVariants.{CannotDereference, ValueReturnedFromVoid}
use Rattle.vocabulary.specs.declared.operator.Operator.TheVariants.{Subscript}
use Rattle.meaning_types.specs.Types.{TypeTree}
use Rattle.meaning_operands.specs.Operands.{is_restricted}
use Rattle.meaning_operands.specs.Answers.{operator_answer}
use Rattle.meaning_operands.specs.Failures.{Broken}
use Rattle.meaning_typing.specs.Expressions.{element_row, index_failures, no_element}
use Rattle.meaning_typing.specs.Facts.{Fact, Unknown, ExpressionFact, operand_of, place, type_of_value, value}
use Rattle.meaning_typing.specs.Rows.{Row, breaks, breaks_at, converted, gives, nothing, void_used}
use Rattle.c_types.specs.Table.{TypeTable, integer_kind, pointed_at}
use Rattle.meaning_types.specs.Spaces.{is_void}
use Rattle.node_facts.specs.declared.expression.ExpressionFact as code
use Rattle.expression_rows.specs.declared.returning.Returned.{Returned}
use Rattle.expression_rows.specs.declared.returning.Returned.TheVariants as returns
use Rattle.expression_rows.specs.Facts.{IsValued, valued_part}

-- nothing is known where there is a least constraint that is broken
abbrev pub unless : Option Broken → Fact → Fact
unless None fact = fact
unless (Some broken) fact = Unknown

-- unary `*`, by the type to which the operand points, if it is a pointer
abbrev pub indirection_with : (token operand : ℕ) → ExpressionFact → Option TypeTree → Row
indirection_with token operand expression (Some target) = gives (place target) [] []
indirection_with token operand expression None = breaks (breaks_at CannotDereference token ++ void_used operand expression)

-- unary `&`
abbrev pub has_address_in : code.ExpressionFact → Bool
has_address_in fact = fact.marks.is_place && not (is_some fact.node.value.width) && not fact.marks.is_register

-- Subscripts

-- the elements to which this type points, where the other is an integer
abbrev pub elements_of : (of other : TypeTree) → Option TypeTree
elements_of of other = if is_some (integer_kind other) then pointed_at of else None

-- the restricted one of two types, of which one is
abbrev pub restricted_in : (left right : TypeTree) → TypeTree
restricted_in left right = if is_restricted left then left else right

-- where this is known of the element
abbrev pub element_given : (token : ℕ) → (left right element : ExpressionFact) → Row
element_given token left right element =
    gives element [] (index_failures token left right (operator_answer Subscript (operand_of left) (operand_of right)).rule)

-- by the elements to which either operand points
abbrev pub subscript_with : (token first second : ℕ) → (left right : ExpressionFact) → (of_left of_right : Option TypeTree) → Row
subscript_with token first second left right (Some element) of_right = element_row token left right left right element
subscript_with token first second left right None (Some element) = element_row token left right right left element
subscript_with token first second left right None None = no_element token first second left right

-- Assignments

-- at most one constraint
abbrev pub listed : Option Broken → List Broken
listed None = []
listed (Some broken) = broken ∷ []

-- a value of this type, after the conversion to that of the left side
abbrev pub assigned_as : (token part value : ℕ) → (left right : ExpressionFact) → TypeTree → Row
assigned_as token part standing left right type_ =
    gives (value type_) (converted token part standing right left.type_).broken (converted token part standing right left.type_).failures

-- `return`

abbrev pub returned_seen : TypeTable → Returned → Option Fact
returned_seen table returns.Nothing = None
returned_seen table (returns.Value part) = Some (valued_part table part)

abbrev pub IsKnownReturn : TypeTable → Returned → Type 0
IsKnownReturn table returns.Nothing = Unit {0}
IsKnownReturn table (returns.Value part) = IfSome part (IsValued table)

-- from a function that returns nothing
abbrev pub returned_from_void : (token : ℕ) → ExpressionFact → Row
returned_from_void token expression = if is_void (type_of_value expression) then nothing else breaks (breaks_at ValueReturnedFromVoid token)

-- as a value of the function's result
abbrev pub returned_as : (token part value : ℕ) → ExpressionFact → (result : TypeTree) → Row
returned_as token part standing expression result =
    record nothing {
      broken = (converted token part standing expression result).broken;
      failures = (converted token part standing expression result).failures;
    }
