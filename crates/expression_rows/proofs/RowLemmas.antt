-- Rows with the constraint and the failure of a conversion.
use Rattle.std.proofs.Common.{◌≡◌, false, [], ◌++◌, Option, Some, None, option_map, if◌then◌else◌, refl, sym, ap, ◌∙◌, append-nil}
use Rattle.meaning_types.specs.Types.{TypeTree, decayed, value_type}
use Rattle.meaning_typing.specs.Facts.{Expression, decays, place, type_of_value}
use Rattle.meaning_typing.specs.Rows as meaning
use Rattle.meaning_rules.specs.Rules.{least_broken, lesser}
use Rattle.c_types.specs.Table.{TypeTable}
use Rattle.expression_rows.specs.declared.convert.Converted.{Converted}
use Rattle.node_facts.specs.declared.expression.ExpressionFact.{ExpressionFact}
use Rattle.expression_rows.specs.declared.row.Broken.{Broken}
use Rattle.expression_rows.specs.declared.row.RowFailures.{RowFailures}
use Rattle.node_facts.specs.Facts.{fact_seen}
use Rattle.expression_rows.specs.Parts.{unless}
use Rattle.expression_rows.specs.Rows.{broken_seen, converted_seen, converted_told, failures_seen, given_row, only_failure, row_seen, told}
use Rattle.expression_rows.proofs.LeastLemmas.{least_both, unless_told}

given_told : (table : TypeTable) (fact : ExpressionFact) (broken : Option Broken) (failures : RowFailures)
    → row_seen table (given_row fact broken failures)
    ≡ record {
      fact = unless (option_map broken_seen broken) (Expression (fact_seen table fact));
      broken = option_map broken_seen broken;
      failures = failures_seen table failures;
      passed = [];
    }
given_told table fact None failures = refl
given_told table fact (Some broken) failures = refl

pub given_converted : (table : TypeTable) (fact : ExpressionFact) (converted : Converted) (meant : meaning.Converted)
    → converted_seen table converted ≡ converted_told meant
    → row_seen table (given_row fact converted.broken (only_failure converted.failure)) ≡ told (meaning.gives (fact_seen table fact) meant.broken meant.failures)
given_converted table fact converted meant is =
    given_told table fact converted.broken (only_failure converted.failure)
    ∙ (λ i. record {
      fact = unless (is i).broken (Expression (fact_seen table fact));
      broken = (is i).broken;
      failures = append-nil (is i).failures i;
      passed = [];
    })
    ∙ (λ i. record { fact = unless_told meant.broken (Expression (fact_seen table fact)) i; broken = least_broken meant.broken; failures = meant.failures; passed = [] })

-- two conversions, with the lesser of what they break
pub given_both : (table : TypeTable) (fact : ExpressionFact) (first second : Converted) (least : Option Broken) (one other : meaning.Converted)
    → converted_seen table first ≡ converted_told one → converted_seen table second ≡ converted_told other
    → option_map broken_seen least ≡ lesser (option_map broken_seen first.broken) (option_map broken_seen second.broken)
    → row_seen table (given_row fact least (record { first = first.failure; second = second.failure }))
    ≡ told (meaning.gives (fact_seen table fact) (meaning.both_converted one other).broken (meaning.both_converted one other).failures)
given_both table fact first second least one other is same lesser_is =
    let broken : option_map broken_seen least ≡ least_broken (one.broken ++ other.broken) =
    lesser_is ∙ (λ i. lesser (is i).broken (same i).broken) ∙ sym (least_both one.broken other.broken) in
    given_told table fact least (record { first = first.failure; second = second.failure })
    ∙ (λ i. record {
      fact = unless (broken i) (Expression (fact_seen table fact));
      broken = broken i;
      failures = (is i).failures ++ (same i).failures;
      passed = [];
    })
    ∙ (λ i. record {
      fact = unless_told (one.broken ++ other.broken) (Expression (fact_seen table fact)) i;
      broken = least_broken (one.broken ++ other.broken);
      failures = one.failures ++ other.failures;
      passed = [];
    })

-- what is loaded of a place has its type, but for qualifiers and flags
pub loaded_place : (type_ : TypeTree) → decays type_ ≡ false → type_of_value (place type_) ≡ value_type type_
loaded_place type_ loads = ap (λ test. if test then decayed type_ else value_type type_) loads
