-- Rows whose type is still to be made.
use Rattle.std.specs.Prelude.{ℕ, false, Option, Some, None, IfSome, is_some, List, [], ◌++◌, option_map}
use Rattle.vocabulary.specs.declared.int_kind.IntKind.TheVariants.{Int, Long}
use Rattle.sparse_model.specs.declared.failure.Failure as code_failure
use Rattle.meaning_layout.specs.Sizes as sizes
use Rattle.meaning_operands.specs.Failures as failures
use Rattle.meaning_operands.specs.Operators.{Operands, IntegerOperands, SumOperands, DifferenceOperands, ComparedOperands, StepOperands}
use Rattle.expression_rows.specs.declared.binary.Taken.{Taken}
use Rattle.expression_rows.specs.declared.binary.Taken.TheVariants as takes
use Rattle.meaning_types.specs.Types.{TypeTree, VoidTree}
use Rattle.meaning_typing.specs.Facts as meaning
use Rattle.vocabulary.specs.declared.operator.Operator.{Operator}
use Rattle.meaning_typing.specs.Operators as operators
use Rattle.meaning_typing.specs.Operators.{integer}
use Rattle.meaning_typing.specs.Rows.{Row, gives, nothing}
use Rattle.meaning_typing.specs.Specifiers.{plain_type}
use Rattle.c_types.specs.Table.{TypeTable, IsTypeId, type_at}
use Rattle.node_facts.specs.Facts.{addressed_seen, no_marks}
use Rattle.node_facts.specs.declared.expression.Addressed.TheVariants as addresses
use Rattle.node_facts.specs.declared.expression.ExpressionFact as code
use Rattle.sparse_model.specs.declared.ids.TypeId.{TypeId}
use Rattle.expression_rows.specs.declared.outcome.Given.{Given}
use Rattle.expression_rows.specs.declared.outcome.GivenType.{GivenType}
use Rattle.expression_rows.specs.declared.outcome.GivenType.TheVariants as types
use Rattle.expression_rows.specs.declared.outcome.Outcome.{Outcome}
use Rattle.expression_rows.specs.declared.row.Broken.{Broken}
use Rattle.expression_rows.specs.declared.row.RowFailures.{RowFailures}
use Rattle.expression_rows.specs.Parts.{unless}
use Rattle.expression_rows.specs.Rows.{Told, IsKnownFailure, broken_seen, failures_seen, only_failure}

abbrev pub type_given : TypeTable → GivenType → TypeTree
type_given table (types.Same id) = type_at table id
type_given table (types.Integer kind) = integer kind
type_given table types.Void = plain_type VoidTree
type_given table (types.Loaded id) = meaning.type_of_value (meaning.place (type_at table id))

abbrev pub IsKnownType : TypeTable → GivenType → Type 0
IsKnownType table (types.Same id) = IsTypeId table id
IsKnownType table (types.Integer kind) = Unit {0}
IsKnownType table types.Void = Unit {0}
IsKnownType table (types.Loaded id) = IsTypeId table id

-- a value of this type
abbrev pub given_seen : TypeTable → Given → meaning.ExpressionFact
given_seen table given =
    record (meaning.value (type_given table given.of)) {
      is_fouled = given.fouled;
      is_null = given.is_null;
      address = addressed_seen given.address;
    }

-- it counts where nothing is broken
abbrev pub given_fact : TypeTable → Option failures.Broken → Option Given → meaning.Fact
given_fact table broken None = meaning.Unknown
given_fact table broken (Some given) = unless broken (meaning.Expression (given_seen table given))

-- what is told of a row, once its type is made
abbrev pub outcome_seen : TypeTable → Outcome → Told
outcome_seen table outcome =
    record {
      fact = given_fact table (option_map broken_seen outcome.broken) outcome.given;
      broken = option_map broken_seen outcome.broken;
      failures = failures_seen table outcome.failures;
      passed = [];
    }

-- its types are of the table
pub record IsKnownOutcome (table : TypeTable) (outcome : Outcome) : Type 0 where
  pub given : IfSome outcome.given (λ given. IsKnownType table given.of)
  pub first : IfSome outcome.failures.first (IsKnownFailure table)
  pub second : IfSome outcome.failures.second (IsKnownFailure table)

-- what is known of a value with its type
abbrev pub fact_given : Given → TypeId → code.ExpressionFact
fact_given given of =
    record {
      node = record { of = of; value = record { fouled = given.fouled; width = None; constant = None } };
      marks = record no_marks { is_null = given.is_null; address = given.address };
    }

-- As they are made

abbrev pub given_of : GivenType → Given
given_of of = record { of = of; fouled = false; is_null = false; address = addresses.NotAddress }

abbrev pub breaks_outcome : Option Broken → Outcome
breaks_outcome broken = record { given = None; broken = broken; failures = record { first = None; second = None } }

abbrev pub gives_outcome : Given → Option Broken → RowFailures → Outcome
gives_outcome given broken failures = record { given = Some given; broken = broken; failures = failures }

-- Rows by the types that they give

-- one integer
abbrev pub unary_given : Operator → (token : ℕ) → meaning.ExpressionFact → TypeTree → Row
unary_given operator token expression type_ =
    gives (operators.given_by operator expression expression type_) []
    (operators.operands_failures token (meaning.type_of_value expression) (meaning.type_of_value expression) (operators.answer_of operator expression expression).rule)

-- two integers
abbrev pub integers_given : Operator → (token : ℕ) → (left right : meaning.ExpressionFact) → TypeTree → Row
integers_given operator token left right type_ =
    gives (operators.given_by operator left right type_) []
    (operators.law_failures token (meaning.type_of_value left) (meaning.type_of_value right) (operators.answer_of operator left right))

-- a pointer that is moved by this count
abbrev pub moved_given : (pointer count : meaning.ExpressionFact) → meaning.ExpressionFact
moved_given pointer count =
    record (meaning.value (meaning.type_of_value pointer)) {
      address = operators.moved_address (operators.value_address pointer) (is_some count.constant);
    }

-- how far two pointers are apart, where this fails
abbrev pub distance_given : sizes.Told → (token : ℕ) → (left right : meaning.ExpressionFact) → List failures.Failure → Row
distance_given told token left right failures =
    gives (meaning.value (integer Long))
    (operators.target_broken told token (meaning.type_of_value left) ++ operators.target_broken told token (meaning.type_of_value right)) failures

abbrev pub compared_outcome : (first second : Option code_failure.Failure) → Outcome
compared_outcome first second = gives_outcome (given_of (types.Integer Int)) None (record { first = first; second = second })

-- an int, where this is broken and this fails
abbrev pub tested_outcome : Option Broken → Option code_failure.Failure → Outcome
tested_outcome broken failure = gives_outcome (given_of (types.Integer Int)) broken (only_failure failure)

-- What operators take

abbrev pub taken_in : Operands → Taken
taken_in IntegerOperands = takes.Integers
taken_in SumOperands = takes.Sum
taken_in DifferenceOperands = takes.Difference
taken_in ComparedOperands = takes.Compared
taken_in StepOperands = takes.Step
taken_in operands = takes.Other

abbrev pub binary_taking : Taken → sizes.Told → Operator → (token first second : ℕ) → (left right : meaning.ExpressionFact) → Row
binary_taking takes.Integers told operator token first second left right =
    operators.arithmetic_of operator token first second left right (operators.value_sort left) (operators.value_sort right)
binary_taking takes.Sum told operator token first second left right =
    operators.addition_of told token first second left right (operators.value_sort left) (operators.value_sort right)
binary_taking takes.Difference told operator token first second left right =
    operators.subtraction_of told token first second left right (operators.value_sort left) (operators.value_sort right)
binary_taking takes.Compared told operator token first second left right =
    operators.comparison_of operator token first second left right (operators.value_sort left) (operators.value_sort right)
binary_taking taken told operator token first second left right = nothing
