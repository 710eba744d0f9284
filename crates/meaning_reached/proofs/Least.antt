-- The least of which something holds, where it is looked for in a finite list.
use Rattle.std.proofs.Common.{◌≡◌, ◌⊎◌, inl, inr, ℕ, ◌≤◌, ℤ, ◌≤ℤ◌, List, [], ◌∷◌, subst, arith}
use Rattle.std.proofs.lemmas.Bool.{cases_lt}
use Rattle.std.proofs.lemmas.Int.{ints, by_lt_z}
use Rattle.meaning_paths.specs.Walks.{IsIn}

module _ {X : Type 0} (Below : X → X → Type 0) (order : (one other : X) → Below one other ⊎ Below other one)
    (along : (one other third : X) → Below one other → Below other third → Below one third) (Is : X → Type 0)
  where
    -- Of what may be found, nothing is there, or one that is so is below each.
    abbrev pub HasLeast : (X → Type 0) → Type 0
    HasLeast Found = ((x : X) → Found x → ⊥) ⊎ ((least : X) × Is least × ((x : X) → Found x → Below least x))

    either : (First Second : X → Type 0) → HasLeast First → HasLeast Second → HasLeast (λ x. First x ⊎ Second x)
    either First Second (inl none) (inl neither) = inl (λ x found. elim found [ inl first ↦ none x first | inr second ↦ neither x second ])
    either First Second (inl none) (inr (least, is, below)) = inr (least, is, λ x found. elim found [ inl first ↦ absurd (none x first) | inr second ↦ below x second ])
    either First Second (inr (least, is, below)) (inl none) = inr (least, is, λ x found. elim found [ inl first ↦ below x first | inr second ↦ absurd (none x second) ])
    either First Second (inr (least, is, below)) (inr (other, is_other, below_other)) =
        elim (order least other) [
          | inl under ↦ inr (least, is, λ x found. elim found [ inl first ↦ below x first | inr second ↦ along least other x under (below_other x second) ])
          | inr over ↦ inr (other, is_other, λ x found. elim found [ inl first ↦ along other least x over (below x first) | inr second ↦ below_other x second ])
        ]

    -- what is found by something else is found
    pub found_so : (First Second : X → Type 0) → ((x : X) → Second x → First x) → HasLeast First → HasLeast Second
    found_so First Second so (inl none) = inl (λ x found. none x (so x found))
    found_so First Second so (inr (least, is, below)) = inr (least, is, λ x found. below x (so x found))

    -- at each element of a list
    pub of_each : {A : Type 0} (Found : A → X → Type 0) (elements : List A) → ((element : A) → HasLeast (Found element))
        → HasLeast (λ x. (element : A) × IsIn element elements × Found element x)
    of_each {A = A} Found [] each = inl (λ x found. found.1)
    of_each {A = A} Found (first ∷ elements) each =
        found_so (λ x. Found first x ⊎ ((element : A) × IsIn element elements × Found element x)) (λ x. (element : A) × IsIn element (first ∷ elements) × Found element x)
        (λ x found. elim found.1 [ inl is ↦ inl (subst (λ now. Found now x) is found.2) | inr there ↦ inr (found.0, there, found.2) ])
        (either (Found first) (λ x. (element : A) × IsIn element elements × Found element x) (each first) (of_each Found elements each))

-- Numbers, and pairs that are ordered by their first parts and then by their second

pub number_order : (one other : ℕ) → (one ≤ other) ⊎ (other ≤ one)
number_order one other = elim (cases_lt one other) [ inl under ↦ inl (omega (arith, under)) | inr over ↦ inr over ]

pub number_along : (one other third : ℕ) → one ≤ other → other ≤ third → one ≤ third
number_along one other third under further = omega (arith, under, further)

abbrev pub PairBelow : (ℕ × ℤ) → (ℕ × ℤ) → Type 0
PairBelow one other = (one.0 ≤ other.0) × (one.0 ≡ other.0 → one.1 ≤ℤ other.1)

second_order : (one other : ℕ × ℤ) → one.0 ≡ other.0 → PairBelow one other ⊎ PairBelow other one
second_order one other same =
    by_lt_z one.1 other.1 (λ under. inl (omega (arith, same), λ is. omega (arith, ints, under))) (λ over. inr (omega (arith, same), λ is. over))

pub pair_order : (one other : ℕ × ℤ) → PairBelow one other ⊎ PairBelow other one
pair_order one other =
    elim (cases_lt one.0 other.0) [
      | inl under ↦ inl (omega (arith, under), λ is. absurd (omega (arith, under, is)))
      | inr over ↦
          elim (cases_lt other.0 one.0) [
            | inl above ↦ inr (over, λ is. absurd (omega (arith, above, is)))
            | inr under ↦ second_order one other (omega (arith, over, under))
          ]
    ]

pub pair_along : (one other third : ℕ × ℤ) → PairBelow one other → PairBelow other third → PairBelow one third
pair_along one other third below further = (
  omega (arith, below.0, further.0),
  λ is.
      let first : one.0 ≡ other.0 = omega (arith, below.0, further.0, is) in
      let second : other.0 ≡ third.0 = omega (arith, below.0, further.0, is) in
      omega (arith, ints, below.1 first, further.1 second),
)
