-- What is gathered of nodes is what they have.
use Rattle.std.proofs.Common.{◌≡◌, ℕ, zero, suc, ◌<◌, ◌⊎◌, inl, inr, List, Contains, subst, arith}
use Rattle.std.proofs.lemmas.List.Elements.{Contains-append_left, Contains-append_right, Contains-append_cases}
use Rattle.meaning_rules.specs.Rules.{gathered}

earlier-or-last : (count all : ℕ) → count < suc all → (count < all) ⊎ (count ≡ all)
earlier-or-last count all within = grind arith

pub gathered-has : {A : Type 0} (of_node : ℕ → List A) (count handle : ℕ) (x : A) → handle < count → Contains (of_node handle) x → Contains (gathered of_node count) x
gathered-has of_node zero handle x within is = absurd (omega (arith, within))
gathered-has of_node (suc count) handle x within is =
    elim (earlier-or-last handle count within) [
      | inl earlier ↦ Contains-append_left (gathered of_node count) (of_node count) x (gathered-has of_node count handle x earlier is)
      | inr last ↦ Contains-append_right (gathered of_node count) (of_node count) x (subst (λ h. Contains (of_node h) x) last is)
    ]

pub gathered-from : {A : Type 0} (of_node : ℕ → List A) (count : ℕ) (x : A) → Contains (gathered of_node count) x → (handle : ℕ) × (handle < count) × Contains (of_node handle) x
gathered-from of_node zero x is = absurd (omega (arith, is.1))
gathered-from of_node (suc count) x is =
    elim (Contains-append_cases (gathered of_node count) (of_node count) x is) [
      | inl earlier ↦
          let found = gathered-from of_node count x earlier in
          (found.0, omega (arith, found.1), found.2)
      | inr last ↦ (count, omega arith, last)
    ]
