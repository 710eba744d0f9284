-- Arms, with what their condition breaks and what fails of it.
use Rattle.std.proofs.Common.{◌≡◌, Bool, true, false, List, Option, Some, None, if◌then◌else◌, refl, ◌∙◌}
use Rattle.meaning_operands.specs.Failures.{Broken}
use Rattle.meaning_typing.specs.Facts.{Fact, Unknown}
use Rattle.meaning_typing.specs.Rows.{unless_broken}
use Rattle.meaning_rules.specs.Rules.{goes_before, least_broken, lesser}
use Rattle.c_types.specs.Table.{TypeTable}
use Rattle.expression_rows.specs.declared.outcome.Given.{Given}
use Rattle.expression_rows.specs.Outcomes.{given_fact}
use Rattle.expression_rows.specs.Parts.{unless}
use Rattle.expression_rows.proofs.LeastLemmas.{unless_told}

-- what is broken of the condition or of the arms
unless_lesser : (first second : Option Broken) (fact : Fact) → unless (lesser first second) fact ≡ unless first (unless second fact)
unless_lesser None second fact = refl
unless_lesser (Some broken) None fact = refl
unless_lesser (Some broken) (Some other) fact = by (goes_before other broken)
  where
    by : (test : Bool) → unless (if test then Some other else Some broken) fact ≡ Unknown
    by true = refl
    by false = refl

nothing_given : (first : Option Broken) → Unknown ≡ unless first Unknown
nothing_given None = refl
nothing_given (Some broken) = refl

pub given_lesser : (table : TypeTable) (first second : Option Broken) (given : Option Given)
    → given_fact table (lesser first second) given ≡ unless first (given_fact table second given)
given_lesser table first second None = nothing_given first
given_lesser table first second (Some given) = unless_lesser first second _

-- the fact of arms below a condition that breaks these
pub arms_fact : (table : TypeTable) (condition : List Broken) (second : Option Broken) (given : Option Given)
    → given_fact table (lesser (least_broken condition) second) given ≡ unless_broken condition (given_fact table second given)
arms_fact table condition second given =
    given_lesser table (least_broken condition) second given ∙ unless_told condition (given_fact table second given)
