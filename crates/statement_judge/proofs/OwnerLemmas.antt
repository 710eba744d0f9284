-- What the `goto`s of a function break the least.
use Rattle.std.proofs.Common.{◌≡◌, ◌≢◌, ℕ, ◌+◌, ◌<◌, ◌++◌, List, Option, Some, None, IfSome, option_map, refl, sym, ap, ◌∙◌, arith}
use Rattle.meaning_operands.specs.Failures.{Broken}
use Rattle.meaning_rules.specs.Rules.{least_broken, lesser}
use Rattle.meaning_statements.specs.Above.{leads_into}
use Rattle.meaning_statements.specs.Jumps.{SeenLabel}
use Rattle.expression_rows.proofs.LeastLemmas.{least_both, lesser_on}
use Rattle.statement_rows.specs.declared.named_labels.FunctionLabel.{FunctionLabel}
use Rattle.statement_rows.specs.Labels.{label_kept}

-- what is kept of a label says as much of it
pub enters_kept : (within : List ℕ) (label : Option SeenLabel)
    → option_map (λ (kept : FunctionLabel). leads_into within kept.inside) (option_map label_kept label)
    ≡ option_map (λ (label : SeenLabel). leads_into within label.inside) label
enters_kept within None = refl
enters_kept within (Some label) = refl

pub token_kept : (label : Option SeenLabel)
    → option_map (λ (kept : FunctionLabel). kept.token) (option_map label_kept label) ≡ option_map (λ (label : SeenLabel). label.token) label
token_kept None = refl
token_kept (Some label) = refl

-- there is none, where there is not one
pub none-by : (number : Option ℕ) → ((one : ℕ) → number ≢ Some one) → number ≡ None
none-by None not = refl
none-by (Some number) not = absurd (not number refl)

-- how many steps are left at most
abbrev pub steps_from : Option ℕ → ℕ
steps_from None = 0
steps_from (Some number) = number + 1

pub fewer_steps : (before : Option ℕ) (number : ℕ) → IfSome before (λ before. before < number) → steps_from before < steps_from (Some number)
fewer_steps None number less = omega arith
fewer_steps (Some before) number less = omega (arith, less)

pub lesser_none : (least : Option Broken) → lesser least None ≡ least
lesser_none None = refl
lesser_none (Some broken) = refl

-- the least so far, one more, and those that are left
pub one_more : (least : Option Broken) (one rest all : List Broken) → all ≡ one ++ rest
    → lesser (lesser least (least_broken one)) (least_broken rest) ≡ lesser least (least_broken all)
one_more least one rest all is =
    sym (lesser_on least (least_broken one) (least_broken rest)) ∙ ap (lesser least) (sym (least_both one rest)) ∙ ap (λ broken. lesser least (least_broken broken)) (sym is)
