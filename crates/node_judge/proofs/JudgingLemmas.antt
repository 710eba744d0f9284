-- What is answered of an expression.
use Rattle.std.proofs.Common.{◌≡◌, Bool, true, false, List, [], ◌∷◌, ◌++◌, Option, Some, None, if◌then◌else◌, refl, ap, ◌∙◌}
use Rattle.std.proofs.lemmas.Option.{none-some}
use Rattle.sparse_model.specs.declared.failure.Failure.{Failure}
use Rattle.meaning_operands.specs.Failures as meaning
use Rattle.meaning_rules.specs.Rules.{goes_before, least_broken, lesser}
use Rattle.c_types.specs.Table.{TypeTable}
use Rattle.expression_rows.specs.Arguments.{Appends}

-- there is a least one of all that are broken
pub least_none : (broken : List meaning.Broken) → None ≡ least_broken broken → broken ≡ []
least_none [] none = refl
least_none (first ∷ others) none = absurd (by (least_broken others) none)
  where
    by_test : (test : Bool) (one other : meaning.Broken) → None ≡ (if test then Some one else Some other) → ⊥
    by_test true one other is = none-some one is
    by_test false one other is = none-some other is

    by : (least : Option meaning.Broken) → None ≡ lesser (Some first) least → ⊥
    by None is = none-some first is
    by (Some least) is = by_test (goes_before least first) least first is

-- failures that were appended to none, and then to others
pub appended_behind : (table : TypeTable) (before own after : List Failure) (failures : List meaning.Failure) → Appends table [] own failures → after ≡ before ++ own
    → Appends table before after failures
appended_behind table before own after failures appends is = (appends.0, is ∙ ap (λ l. before ++ l) appends.1, appends.2, appends.3)
