-- What is asked of an object of an aggregate's type where an expression takes it whole: that its type is complete, and, where
-- it is stored to, that no member is const (C11 6.3.2.1 p1, p2, 6.5.2.1 p1, 6.5.2.2 p1).
use Rattle.std.specs.Prelude.{ℕ, Bool, true, false, ◌&&◌, List, [], ◌++◌, if◌then◌else◌}
use Rattle.vocabulary.specs.declared.error_kind.ErrorKind.TheVariants.{IncompleteType}
use Rattle.vocabulary.specs.declared.operator.Operator.{Operator}
use Rattle.meaning_types.specs.Types.{Qualifiers, TypeTree, Typed, PointerTree, FunctionTree, no_flags}
use Rattle.meaning_types.specs.Marks.{marked}
use Rattle.meaning_layout.specs.Sizes.{Told}
use Rattle.meaning_operands.specs.Failures.{Broken}
use Rattle.meaning_typing.specs.Surroundings.{Want, ForValue}
use Rattle.meaning_typing.specs.Facts.{Fact, Expression, ExpressionFact, is_loaded, type_of_value}
use Rattle.meaning_typing.specs.Aggregates.{KnownAggregates, is_const_within}
use Rattle.meaning_typing.specs.Rows.{Row, breaks, breaks_at, unless_broken}
use Rattle.meaning_typing.specs.Expressions.{Argument, assignment_row, call_row, subscript_row}
use Rattle.meaning_typing.specs.Operators.{has_no_size}
use Rattle.meaning_typing.specs.Changes.{compound_row, place_broken, step_before_row, step_behind_row}

-- a row that breaks these besides
abbrev pub and_breaks : Row → List Broken → Row
and_breaks row broken = record row { fact = unless_broken broken row.fact; broken = row.broken ++ broken }

-- of a place of a type without a size; arrays and functions aren't taken whole, and void is none
abbrev pub is_incomplete_place : Told → ExpressionFact → Bool
is_incomplete_place told expression = is_loaded expression && has_no_size told expression.type_

abbrev pub incomplete_at : Told → (token : ℕ) → Fact → List Broken
incomplete_at told token (Expression expression) = if is_incomplete_place told expression then breaks_at IncompleteType token else []
incomplete_at told token fact = []

-- Loads: a place whose value is wanted is complete, also where nothing is evaluated; it stands at the place

abbrev pub loaded_broken : Told → (token : ℕ) → Want → Fact → List Broken
loaded_broken told token ForValue fact = incomplete_at told token fact
loaded_broken told token want fact = []

abbrev pub row_loaded : Told → (token : ℕ) → Want → Row → Row
row_loaded told token want row = and_breaks row (loaded_broken told token want row.fact)

-- Stores

abbrev pub only_const : Qualifiers
only_const = record { is_const = true; is_volatile = false }

-- to a store an aggregate with a const member is as a const one
abbrev pub as_stored : KnownAggregates → Fact → Fact
as_stored aggregates (Expression expression) =
    if is_const_within aggregates.has_const expression.type_
    then Expression (record expression { type_ = marked only_const no_flags expression.type_ })
    else Expression expression
as_stored aggregates fact = fact

-- `=`: the place that is stored to is told at the operator
abbrev pub whole_assignment_row : KnownAggregates → (token second : ℕ) → (left right : Fact) → Row
whole_assignment_row aggregates token second left right =
    and_breaks (assignment_row token second (as_stored aggregates left) right) (incomplete_at aggregates.told token left)

-- Other assignments, `++` and `--` load the place too: of an incomplete one that is told, and whether it may be written.
abbrev pub unless_incomplete : Told → (token operand : ℕ) → Fact → Row → Row
unless_incomplete told token operand (Expression expression) row =
    if is_incomplete_place told expression then breaks (place_broken token expression ++ breaks_at IncompleteType operand) else row
unless_incomplete told token operand fact row = row

abbrev pub whole_compound_row : KnownAggregates → Operator → (token first second : ℕ) → (left right : Fact) → Row
whole_compound_row aggregates operator token first second left right =
    unless_incomplete aggregates.told token first left (compound_row aggregates.told operator token first second (as_stored aggregates left) right)

abbrev pub whole_step_before_row : KnownAggregates → Operator → (token operand : ℕ) → Fact → Row
whole_step_before_row aggregates operator token operand fact =
    unless_incomplete aggregates.told token operand fact (step_before_row aggregates.told operator token operand (as_stored aggregates fact))

abbrev pub whole_step_behind_row : KnownAggregates → Operator → (token operand : ℕ) → Fact → Row
whole_step_behind_row aggregates operator token operand fact =
    unless_incomplete aggregates.told token operand fact (step_behind_row aggregates.told operator token operand (as_stored aggregates fact))

-- Elements, to which a pointer is moved, and results

abbrev pub sized_broken : Told → (token : ℕ) → TypeTree → List Broken
sized_broken told token type_ = if has_no_size told type_ then breaks_at IncompleteType token else []

abbrev pub element_broken : Told → (token : ℕ) → Fact → List Broken
element_broken told token (Expression element) = sized_broken told token element.type_
element_broken told token fact = []

abbrev pub whole_subscript_row : Told → (token first second : ℕ) → (left right : Fact) → Row
whole_subscript_row told token first second left right =
    and_breaks (subscript_row token first second left right) (element_broken told token (subscript_row token first second left right).fact)

abbrev pub result_broken : Told → (token : ℕ) → TypeTree → List Broken
result_broken told token (Typed (PointerTree (Typed (FunctionTree result parameters variadic) _ _)) _ _) = sized_broken told token result
result_broken told token type_ = []

abbrev pub callee_broken : Told → (token : ℕ) → Fact → List Broken
callee_broken told token (Expression callee) = result_broken told token (type_of_value callee)
callee_broken told token fact = []

abbrev pub whole_call_row : Told → (token called : ℕ) → (callee : Fact) → List Argument → Row
whole_call_row told token called callee arguments = and_breaks (call_row token called callee arguments) (callee_broken told token callee)
