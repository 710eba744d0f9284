-- What a leaf is asked that is taken by its value, and how its row is seen.
use Rattle.std.specs.Prelude.{ℕ, pos, Bool, ◌&&◌, not, List, [], Some, IfSome, option_map, if◌then◌else◌}
use Rattle.vocabulary.specs.declared.error_kind.ErrorKind.TheVariants.{InitializerIsNotConstant}
use Rattle.vocabulary.specs.declared.rule.RuleCode.{RuleCode}
use Rattle.sparse_model.specs.declared.failure.Failure.{Failure}
use Rattle.sparse_model.specs.declared.ids.TypeId.{TypeId}
use Rattle.meaning_types.specs.Types.{TypeTree}
use Rattle.meaning_operands.specs.Failures.{Broken}
use Rattle.meaning_typing.specs.Facts.{Fact}
use Rattle.meaning_typing.specs.Rows.{breaks_at}
use Rattle.meaning_rules.specs.Rules.{least_broken, lesser}
use Rattle.meaning_initializers.specs.Plans.{conversion_by, is_constant_leaf}
use Rattle.c_types.specs.Table.{TypeTable}
use Rattle.expression_rows.specs.Rows.{IsKnownFailure, ToldConversion, broken_seen, failure_listed}
use Rattle.leaf_rows.specs.declared.conversion.Conversion.{Conversion}
use Rattle.leaf_rows.specs.declared.leaf.LeafRow.{LeafRow}

-- Conversions

abbrev pub conversion_seen : TypeTable → Conversion → ToldConversion
conversion_seen table conversion = record { broken = option_map broken_seen conversion.broken; failures = failure_listed table conversion.failure }

abbrev pub IsKnownConversion : TypeTable → Conversion → Type 0
IsKnownConversion table conversion = IfSome conversion.failure (IsKnownFailure table)

-- a rule fails at a leaf: these types are there, and wanted
abbrev pub failed : RuleCode → (token : ℕ) → (from to : TypeId) → Failure
failed rule token from to =
    record { token = token; rule = rule; part = 256; first = Some to; second = Some from; name = record { 0 = 0 }; number = pos 0; wanted = pos 0 }

-- Leaves

-- it is constant where the object is static
abbrev pub not_constant_at : (is_static : Bool) → (token : ℕ) → Fact → List Broken
not_constant_at is_static token fact = if is_static && not (is_constant_leaf fact) then breaks_at InitializerIsNotConstant token else []

-- and becomes a value of its part's type
abbrev pub leaf_told : (is_static : Bool) → TypeTree → (token : ℕ) → Fact → ToldConversion
leaf_told is_static type_ token fact =
    record {
      broken = lesser (least_broken (conversion_by type_ token fact).broken) (least_broken (not_constant_at is_static token fact));
      failures = (conversion_by type_ token fact).failures;
    }

abbrev pub leaf_seen : TypeTable → LeafRow → ToldConversion
leaf_seen table row = record { broken = option_map broken_seen row.broken; failures = failure_listed table row.failure }

abbrev pub IsKnownLeaf : TypeTable → LeafRow → Type 0
IsKnownLeaf table row = IfSome row.failure (IsKnownFailure table)
