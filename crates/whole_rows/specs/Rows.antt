-- Rows that break more than those of their parts, as they are told.
use Rattle.std.specs.Prelude.{ℕ, Bool, true, false, List, [], ◌++◌, Option, Some, None, if◌then◌else◌}
use Rattle.vocabulary.specs.declared.error_kind.ErrorKind.TheVariants.{IncompleteType}
use Rattle.meaning_types.specs.Types.{TypeTree}
use Rattle.meaning_layout.specs.Sizes as sizes
use Rattle.meaning_operands.specs.Failures.{Broken}
use Rattle.meaning_rules.specs.Rules.{lesser}
use Rattle.meaning_typing.specs.Changes.{place_broken}
use Rattle.meaning_typing.specs.Facts.{Fact, Unknown, Expression, type_of_value}
use Rattle.meaning_typing.specs.Rows.{breaks_at}
use Rattle.meaning_typing.specs.Surroundings.{Want, ForValue}
use Rattle.meaning_typing.specs.Wholes.{incomplete_at, is_incomplete_place, sized_broken}
use Rattle.c_types.specs.Table.{pointed_at}
use Rattle.expression_rows.specs.Arguments.{function_through, result_with}
use Rattle.expression_rows.specs.Rows.{Told}

-- a row that breaks this besides
abbrev pub told_and : Told → Option Broken → Told
told_and row None = row
told_and row (Some broken) = record row { fact = Unknown; broken = lesser row.broken (Some broken) }

-- a row that gives way to this
abbrev pub told_unless : Option Broken → Told → Told
told_unless None row = row
told_unless (Some broken) row = record { fact = Unknown; broken = Some broken; failures = []; passed = [] }

-- Loads

abbrev pub is_for_value : Want → Bool
is_for_value ForValue = true
is_for_value want = false

-- what a load breaks, if the value is wanted
abbrev pub loaded_if : sizes.Told → (token : ℕ) → (is_valued : Bool) → Fact → List Broken
loaded_if told token is_valued fact = if is_valued then incomplete_at told token fact else []

-- Changes

-- an incomplete place is told at its own token, and at the operator whether it may be written
abbrev pub changed_broken : sizes.Told → (token operand : ℕ) → Fact → List Broken
changed_broken told token operand (Expression expression) =
    if is_incomplete_place told expression then place_broken token expression ++ breaks_at IncompleteType operand else []
changed_broken told token operand fact = []

-- Calls

abbrev pub result_through : (count : ℕ) → (function : Option TypeTree) → Option TypeTree
result_through count None = None
result_through count (Some function) = result_with count function

-- the result of the function to which this type points, if it takes so many arguments
abbrev pub result_taken : (count : ℕ) → TypeTree → Option TypeTree
result_taken count type_ = result_through count (function_through (pointed_at type_))

abbrev pub sized_if : sizes.Told → (token : ℕ) → Option TypeTree → List Broken
sized_if told token None = []
sized_if told token (Some type_) = sized_broken told token type_

-- that it has no size
abbrev pub taken_broken : sizes.Told → (token count : ℕ) → Fact → List Broken
taken_broken told token count (Expression callee) = sized_if told token (result_taken count (type_of_value callee))
taken_broken told token count fact = []
