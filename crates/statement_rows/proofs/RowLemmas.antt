-- What is told of a row of which nothing is known, and the least of what a label breaks.
use Rattle.std.proofs.Common.{◌≡◌, ℕ, ℤ, Bool, true, false, is_some, List, [], Option, Some, None, if◌then◌else◌, refl, ap, ◌∙◌}
use Rattle.vocabulary.specs.declared.error_kind.ErrorKind.TheVariants.{CaseLabelIsNotConstant}
use Rattle.meaning_operands.specs.Failures.{Broken, Failure}
use Rattle.meaning_rules.specs.Rules.{least_broken, lesser}
use Rattle.meaning_typing.specs.Facts.{Expression, ExpressionFact, Unknown}
use Rattle.meaning_typing.specs.Rows.{breaks_at, void_used}
use Rattle.meaning_statements.specs.Statements.{constant_broken, label_constant, unbraced}
use Rattle.c_types.specs.Table.{TypeTable}
use Rattle.expression_rows.specs.Rows.{Told, failure_listed}
use Rattle.expression_rows.proofs.LeastLemmas.{least_both}
use Rattle.statement_rows.specs.Rows.{not_constant, unbraced_failure}

abbrev pub told_says : Option Broken → List Failure → Told
told_says broken failures = record { fact = Unknown; broken = broken; failures = failures; passed = [] }

pub unbraced_told : (table : TypeTable) (token : ℕ) (braced : Bool) → failure_listed table (unbraced_failure token braced) ≡ unbraced token braced
unbraced_told table token true = refl
unbraced_told table token false = refl

-- a label that isn't constant, by whether it has a number
constant-told : (value : ℕ) (number : Option ℤ) → (if is_some number then [] else breaks_at CaseLabelIsNotConstant value) ≡ not_constant value number
constant-told value None = refl
constant-told value (Some number) = refl

-- the least of what a label breaks
pub label_told : (value : ℕ) (label : ExpressionFact)
    → least_broken (constant_broken value (Expression label))
    ≡ lesser (least_broken (void_used value label)) (least_broken (not_constant value (label_constant (Expression label))))
label_told value label =
    least_both (void_used value label) (if is_some (label_constant (Expression label)) then [] else breaks_at CaseLabelIsNotConstant value)
    ∙ ap (λ constant. lesser (least_broken (void_used value label)) (least_broken constant)) (constant-told value (label_constant (Expression label)))
