-- The least of several lists, one after the other.
use Rattle.std.proofs.Common.{◌≡◌, ℕ, Bool, true, false, List, [], ◌∷◌, ◌++◌, Option, Some, None, if◌then◌else◌, refl, sym, ap, ◌∙◌, arith}
use Rattle.std.proofs.lemmas.Bool.Decides.{nat_tests}
use Rattle.std.proofs.lemmas.Option.{none-some}
use Rattle.meaning_operands.specs.Failures.{Broken}
use Rattle.meaning_rules.specs.Rules.{goes_before, least_broken, least_token, lesser, lower}
use Rattle.meaning_types.specs.Types.{TypeTree}
use Rattle.meaning_typing.specs.DeclarationRows.{type_unless}
use Rattle.expression_rows.proofs.LeastLemmas as rows
use Rattle.declaration_rows.specs.Parts.{lowest}

-- Constraints

pub least_two : (first second : List Broken) → lesser (least_broken first) (least_broken second) ≡ least_broken (first ++ second)
least_two first second = sym (rows.least_both first second)

-- the least so far, one list more, and those that are left
pub least_more : (least : Option Broken) (front back : List Broken)
    → lesser (lesser least (least_broken front)) (least_broken back) ≡ lesser least (least_broken (front ++ back))
least_more least front back =
    sym (rows.lesser_on least (least_broken front) (least_broken back)) ∙ ap (lesser least) (least_two front back)

pub lesser_none : (least : Option Broken) → lesser least None ≡ least
lesser_none None = refl
lesser_none (Some broken) = refl

-- where there is no least, nothing is broken

least_other : (test : Bool) (broken other : Broken) → None ≡ (if test then Some other else Some broken) → ⊥
least_other true broken other none = none-some other none
least_other false broken other none = none-some broken none

least_there : (broken : Broken) (others : Option Broken) → None ≡ lesser (Some broken) others → ⊥
least_there broken None none = none-some broken none
least_there broken (Some other) none = least_other (goes_before other broken) broken other none

pub nothing_broken : (list : List Broken) → None ≡ least_broken list → list ≡ []
nothing_broken [] none = refl
nothing_broken (broken ∷ others) none = absurd (least_there broken (least_broken others) none)

-- Types behind what is broken

pub type_there : (list : List Broken) (made : Option TypeTree) → None ≡ least_broken list → made ≡ type_unless list made
type_there list made none = ap (λ broken. type_unless broken made) (sym (nothing_broken list none))

pub type_hidden : (list : List Broken) (made : Option TypeTree) (broken : Broken) → Some broken ≡ least_broken list → None ≡ type_unless list made
type_hidden [] made broken some = absurd (none-some broken (sym some))
type_hidden (first ∷ others) made broken some = refl

-- Tokens

lower_three : (x y z : ℕ) → lower x (Some (lower y (Some z))) ≡ lower (lower x (Some y)) (Some z)
lower_three x y z = grind (arith, nat_tests)

lower_on : (token : ℕ) (second third : Option ℕ) → lower token (lowest second third) ≡ lower (lower token second) third
lower_on token None third = refl
lower_on token (Some other) None = refl
lower_on token (Some other) (Some last) = lower_three token other last

lowest_on : (first second third : Option ℕ) → lowest first (lowest second third) ≡ lowest (lowest first second) third
lowest_on None second third = refl
lowest_on (Some token) second third = ap Some (lower_on token second third)

lowest_both : (first second : List ℕ) → least_token (first ++ second) ≡ lowest (least_token first) (least_token second)
lowest_both [] second = refl
lowest_both (token ∷ first) second =
    ap (λ least. Some (lower token least)) (lowest_both first second) ∙ ap Some (lower_on token (least_token first) (least_token second))

pub lowest_more : (least : Option ℕ) (front back : List ℕ)
    → lowest (lowest least (least_token front)) (least_token back) ≡ lowest least (least_token (front ++ back))
lowest_more least front back =
    sym (lowest_on least (least_token front) (least_token back)) ∙ ap (lowest least) (sym (lowest_both front back))

pub lowest_none : (least : Option ℕ) → lowest least None ≡ least
lowest_none None = refl
lowest_none (Some token) = refl
