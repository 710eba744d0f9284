-- Rows that break more than those of their parts.
use Rattle.std.proofs.Common.{◌≡◌, ℕ, Bool, true, false, List, [], ◌++◌, Option, Some, None, if◌then◌else◌, refl, sym, ap, ◌∙◌}
use Rattle.vocabulary.specs.declared.error_kind.ErrorKind.TheVariants.{IncompleteType, NotModifiable}
use Rattle.meaning_layout.specs.Sizes as sizes
use Rattle.meaning_operands.specs.Failures.{Broken}
use Rattle.meaning_rules.specs.Rules.{goes_before, least_broken, lesser}
use Rattle.meaning_typing.specs.Changes.{place_broken}
use Rattle.meaning_typing.specs.Expressions.{is_modifiable}
use Rattle.meaning_typing.specs.Facts.{Fact, Unknown, Expression, Specified, Declared, NamedType, ExpressionFact}
use Rattle.meaning_typing.specs.Rows.{Row, breaks, breaks_at}
use Rattle.meaning_typing.specs.Surroundings.{Want, ForValue}
use Rattle.meaning_typing.specs.Wholes.{and_breaks, is_incomplete_place, loaded_broken, unless_incomplete}
use Rattle.expression_rows.specs.Parts.{unless}
use Rattle.expression_rows.specs.Rows.{Told, told}
use Rattle.expression_rows.proofs.LeastLemmas.{least_both, unless_told}
use Rattle.whole_rows.specs.Rows.{changed_broken, is_for_value, loaded_if, told_and, told_unless}

lesser_none : (least : Option Broken) → lesser least None ≡ least
lesser_none None = refl
lesser_none (Some broken) = refl

and_least : (row : Told) (least : Option Broken) → record row { fact = unless least row.fact; broken = lesser row.broken least } ≡ told_and row least
and_least row None = ap (λ broken. record row { broken = broken }) (lesser_none row.broken)
and_least row (Some broken) = refl

-- it is told by the least of what it breaks besides
pub and_told : (row : Row) (broken : List Broken) → told_and (told row) (least_broken broken) ≡ told (and_breaks row broken)
and_told row broken =
    sym (and_least (told row) (least_broken broken))
    ∙ (λ i. record { fact = unless_told broken row.fact i; broken = sym (least_both row.broken broken) i; failures = row.failures; passed = row.passed })

-- Loads

pub loaded_told : (sizes : sizes.Told) (token : ℕ) (fact : Fact) (want : Want) → loaded_if sizes token (is_for_value want) fact ≡ loaded_broken sizes token want fact
loaded_told sizes token fact ForValue = refl
loaded_told sizes token fact want = refl

-- Changes

module _ (sizes : sizes.Told) (token operand : ℕ) (row : Row) where
  -- something is broken, so it is told alone
  alone : (place : Bool) → told_unless (least_broken ((if place then [] else breaks_at NotModifiable token) ++ breaks_at IncompleteType operand)) (told row)
      ≡ told (breaks ((if place then [] else breaks_at NotModifiable token) ++ breaks_at IncompleteType operand))
  alone true = refl
  alone false = by (goes_before (record { constraint = IncompleteType; token = operand; name = [] }) (record { constraint = NotModifiable; token = token; name = [] }))
    where
      by : (test : Bool)
          → told_unless (if test then Some (record { constraint = IncompleteType; token = operand; name = [] }) else Some (record { constraint = NotModifiable; token = token; name = [] })) (told row)
          ≡ record {
            fact = Unknown;
            broken = if test then Some (record { constraint = IncompleteType; token = operand; name = [] }) else Some (record { constraint = NotModifiable; token = token; name = [] });
            failures = [];
            passed = [];
          }
      by true = refl
      by false = refl

  place_unless : (expression : ExpressionFact) (test : Bool)
      → told_unless (least_broken (if test then place_broken token expression ++ breaks_at IncompleteType operand else [])) (told row)
      ≡ told (if test then breaks (place_broken token expression ++ breaks_at IncompleteType operand) else row)
  place_unless expression true = alone (is_modifiable expression)
  place_unless expression false = refl

  pub changed_told : (fact : Fact)
      → told_unless (least_broken (changed_broken sizes token operand fact)) (told row) ≡ told (unless_incomplete sizes token operand fact row)
  changed_told Unknown = refl
  changed_told (Expression expression) = place_unless expression (is_incomplete_place sizes expression)
  changed_told (Specified specifiers) = refl
  changed_told (Declared declaration) = refl
  changed_told (NamedType type_) = refl
