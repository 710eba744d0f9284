-- What is said of statements as it is made.
use Rattle.std.specs.Prelude.{ℕ, ℤ, Bool, [], List, Option, Some, None, IfSome, if◌then◌else◌}
use Rattle.vocabulary.specs.declared.error_kind.ErrorKind.TheVariants.{CaseLabelIsNotConstant}
use Rattle.vocabulary.specs.declared.operator.Operator.TheVariants as operators
use Rattle.vocabulary.specs.declared.rule.RuleCode.TheVariants.{S5}
use Rattle.sparse_model.specs.declared.failure.Failure.{Failure}
use Rattle.meaning_operands.specs.Failures as failures
use Rattle.meaning_typing.specs.Facts.{ExpressionFact}
use Rattle.meaning_typing.specs.Operators.{answer_of}
use Rattle.meaning_typing.specs.Rows.{breaks_at}
use Rattle.meaning_statements.specs.Statements.{met_by}
use Rattle.c_types.specs.Table.{TypeTable}
use Rattle.expression_rows.specs.declared.row.RowFailures.{RowFailures}
use Rattle.expression_rows.specs.Rows.{IsKnownFailure, plain_failure}

-- a body of `do` without braces
abbrev pub unbraced_failure : (token : ℕ) → (braced : Bool) → Option Failure
unbraced_failure token braced = if braced then None else Some (plain_failure S5 token 0 None None)

abbrev pub not_constant : (value : ℕ) → Option ℤ → List failures.Broken
not_constant value None = breaks_at CaseLabelIsNotConstant value
not_constant value (Some number) = []

-- a label beside its switch value
abbrev pub met_failures : (token : ℕ) → (label switched : ExpressionFact) → List failures.Failure
met_failures token label switched = met_by token label switched (answer_of operators.Equal label switched).rule

-- their types are of the table
pub record AreKnownFailures (table : TypeTable) (failures : RowFailures) : Type 0 where
  pub first : IfSome failures.first (IsKnownFailure table)
  pub second : IfSome failures.second (IsKnownFailure table)
