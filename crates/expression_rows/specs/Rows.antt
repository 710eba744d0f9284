-- How a row is seen: the failures in their order, and of what is broken the least.
use Rattle.std.specs.Prelude.{ℕ, pos, List, [], ◌∷◌, ◌++◌, Option, Some, None, IfSome, option_map}
use Rattle.vocabulary.specs.declared.error_kind.ErrorKind.{ErrorKind}
use Rattle.vocabulary.specs.declared.rule.RuleCode.{RuleCode}
use Rattle.sparse_model.specs.declared.failure.Failure.{Failure}
use Rattle.sparse_model.specs.declared.ids.TypeId.{TypeId}
use Rattle.meaning_operands.specs.Failures as meaning
use Rattle.meaning_typing.specs.Facts.{Fact}
use Rattle.meaning_typing.specs.Rows as rows
use Rattle.meaning_rules.specs.Rules.{least_broken}
use Rattle.c_types.specs.Table.{TypeTable, IsTypeId, type_at}
use Rattle.node_facts.specs.declared.expression.ExpressionFact.{ExpressionFact}
use Rattle.expression_rows.specs.declared.convert.Converted.{Converted}
use Rattle.expression_rows.specs.declared.row.Broken.{Broken}
use Rattle.expression_rows.specs.declared.row.RowFailures.{RowFailures}
use Rattle.expression_rows.specs.declared.row.Row.{Row}
use Rattle.node_facts.specs.Facts.{name_seen}
use Rattle.expression_rows.specs.Facts.{part_seen, IsKnownPart}

abbrev pub broken_seen : Broken → meaning.Broken
broken_seen broken = record { constraint = broken.constraint; token = broken.token; name = name_seen broken.name }

abbrev pub failure_seen : TypeTable → Failure → meaning.Failure
failure_seen table failure =
    record {
      token = failure.token;
      rule = failure.rule;
      part = failure.part;
      first = option_map (type_at table) failure.first;
      second = option_map (type_at table) failure.second;
      name = name_seen failure.name;
      number = failure.number;
      wanted = failure.wanted;
    }

abbrev pub failure_listed : TypeTable → Option Failure → List meaning.Failure
failure_listed table None = []
failure_listed table (Some failure) = failure_seen table failure ∷ []

abbrev pub failures_seen : TypeTable → RowFailures → List meaning.Failure
failures_seen table failures = failure_listed table failures.first ++ failure_listed table failures.second

-- what the pass takes over of a row
pub record Told : Type 0 where
  pub fact : Fact
  pub broken : Option meaning.Broken
  pub failures : List meaning.Failure
  pub passed : List ℕ

abbrev pub told : rows.Row → Told
told row = record { fact = row.fact; broken = least_broken row.broken; failures = row.failures; passed = row.passed }

-- no expression passes the limit of the size of an object
abbrev pub row_seen : TypeTable → Row → Told
row_seen table row =
    record {
      fact = part_seen table row.fact;
      broken = option_map broken_seen row.broken;
      failures = failures_seen table row.failures;
      passed = [];
    }

-- Rows as they are made

abbrev pub broken_at : ErrorKind → ℕ → Broken
broken_at constraint token = record { constraint = constraint; token = token; name = record { 0 = 0 } }

abbrev pub plain_failure : RuleCode → (token part : ℕ) → (first second : Option TypeId) → Failure
plain_failure rule token part first second =
    record { token = token; rule = rule; part = part; first = first; second = second; name = record { 0 = 0 }; number = pos 0; wanted = pos 0 }

abbrev pub no_failures : RowFailures
no_failures = record { first = None; second = None }

abbrev pub only_failure : Option Failure → RowFailures
only_failure failure = record { first = failure; second = None }

abbrev pub broken_row : Option Broken → RowFailures → Row
broken_row broken failures = record { fact = None; broken = broken; failures = failures }

-- it is known, unless something is broken
abbrev pub given_row : ExpressionFact → Option Broken → RowFailures → Row
given_row fact None failures = record { fact = Some fact; broken = None; failures = failures }
given_row fact (Some broken) failures = broken_row (Some broken) failures

-- Conversions

-- what a row takes over of a conversion
pub record ToldConversion : Type 0 where
  pub broken : Option meaning.Broken
  pub failures : List meaning.Failure

abbrev pub converted_told : rows.Converted → ToldConversion
converted_told converted = record { broken = least_broken converted.broken; failures = converted.failures }

abbrev pub converted_seen : TypeTable → Converted → ToldConversion
converted_seen table converted =
    record { broken = option_map broken_seen converted.broken; failures = failure_listed table converted.failure }

abbrev pub no_conversion : Converted
no_conversion = record { broken = None; failure = None }

-- Known types

abbrev pub IsKnownFailure : TypeTable → Failure → Type 0
IsKnownFailure table failure = IfSome failure.first (IsTypeId table) × IfSome failure.second (IsTypeId table)

abbrev pub IsKnownConversion : TypeTable → Converted → Type 0
IsKnownConversion table converted = IfSome converted.failure (IsKnownFailure table)

-- its types are of the table
pub record IsKnownRow (table : TypeTable) (row : Row) : Type 0 where
  pub fact : IsKnownPart table row.fact
  pub first : IfSome row.failures.first (IsKnownFailure table)
  pub second : IfSome row.failures.second (IsKnownFailure table)
