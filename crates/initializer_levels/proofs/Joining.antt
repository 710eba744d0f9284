-- What is written before a plan.
use Rattle.std.proofs.Common.{◌≡◌, ℕ, Bool, List, ◌++◌, refl, sym, ap, ◌∙◌}
use Rattle.std.proofs.lemmas.List.{append_assoc}
use Rattle.meaning_initializers.specs.Items.{Items}
use Rattle.meaning_initializers.specs.Plans.{Leaf, Refusal, Plan, Filled}

abbrev pub plan_of : List Leaf → List Refusal → ℕ → Plan
plan_of leaves refusals length = record { leaves = leaves; refusals = refusals; length = length }

pub same_plan : (leaves others : List Leaf) (refusals more : List Refusal) (length count : ℕ) → leaves ≡ others → refusals ≡ more → length ≡ count
    → plan_of leaves refusals length ≡ plan_of others more count
same_plan leaves others refusals more length count one two three =
    ap (λ (l : List Leaf). plan_of l refusals length) one ∙ (ap (λ (r : List Refusal). plan_of others r length) two ∙ ap (plan_of others more) three)

abbrev pub filled_of : Plan → Items → Bool → Filled
filled_of plan left is_filled = record { plan = plan; left = left; is_filled = is_filled }

pub same_filled : (plan other : Plan) (left rest : Items) (is_filled is : Bool) → plan ≡ other → left ≡ rest → is_filled ≡ is
    → filled_of plan left is_filled ≡ filled_of other rest is
same_filled plan other left rest is_filled is one two three =
    ap (λ (p : Plan). filled_of p left is_filled) one ∙ (ap (λ (l : Items). filled_of other l is_filled) two ∙ ap (filled_of other rest) three)

-- a plan behind another one, of which the length doesn't count
abbrev pub before : Plan → Plan → Plan
before plan more = plan_of (plan.leaves ++ more.leaves) (plan.refusals ++ more.refusals) more.length

abbrev pub before_filled : Plan → Filled → Filled
before_filled plan filled = record filled { plan = before plan filled.plan }

pub before-assoc : (first second third : Plan) → before first (before second third) ≡ before (before first second) third
before-assoc first second third =
    same_plan _ _ _ _ third.length _ (sym (append_assoc first.leaves second.leaves third.leaves)) (sym (append_assoc first.refusals second.refusals third.refusals)) refl
