-- Finitely many places by their numbers in a list that has each of them, some perhaps more than once.
use Rattle.std.proofs.Common.{◌≡◌, ◌⊎◌, inl, inr, ℕ, zero, suc, ◌<◌, List, [], ◌∷◌, length, get_or, refl, sym, ap, subst, ◌∙◌, arith}
use Rattle.meaning_paths.specs.Walks.{IsIn}

found_or_otherwise : {S : Type 0} (xs : List S) (otherwise : S) (number : ℕ) → IsIn (get_or xs number otherwise) xs ⊎ (get_or xs number otherwise ≡ otherwise)
found_or_otherwise [] otherwise number = inr refl
found_or_otherwise (x ∷ xs) otherwise zero = inl (inl refl)
found_or_otherwise (x ∷ xs) otherwise (suc number) =
    elim (found_or_otherwise xs otherwise number) [ inl there ↦ inl (inr there) | inr past ↦ inr past ]

number_of : {S : Type 0} (xs : List S) (otherwise x : S) → IsIn x xs → (number : ℕ) × (number < length xs) × (get_or xs number otherwise ≡ x)
number_of [] otherwise x there = absurd there
number_of (y ∷ xs) otherwise x (inl is) = (0, omega arith, sym is)
number_of (y ∷ xs) otherwise x (inr there) = let (number, below, stands) = number_of xs otherwise x there in (suc number, omega (arith, below), stands)

module _ {S : Type 0} (all : List S) (start : S) where
  -- the place with this number; past the list it is the start
  abbrev pub place_at : ℕ → S
  place_at number = get_or all number start

  -- these are the numbers of these places
  pub record AreNumbers (xs : List S) (numbers : List ℕ) : Type 0 where
    pub below : (number : ℕ) → IsIn number numbers → number < length all
    pub stand : (number : ℕ) → IsIn number numbers → IsIn (place_at number) xs
    pub each : (x : S) → IsIn x xs → (number : ℕ) × IsIn number numbers × (place_at number ≡ x)

  numbered : (xs : List S) → ((x : S) → IsIn x xs → IsIn x all) → (numbers : List ℕ) × AreNumbers xs numbers
  numbered [] among = ([], record { below = λ number there. absurd there; stand = λ number there. absurd there; each = λ x there. absurd there })
  numbered (x ∷ xs) among =
      let (number, below, is) = number_of all start x (among x (inl refl)) in
      let (numbers, are) = numbered xs (λ y there. among y (inr there)) in (
        number ∷ numbers,
        record {
          below = λ other there. elim there [ inl same ↦ subst (λ now. now < length all) (sym same) below | inr further ↦ are.below other further ];
          stand = λ other there. elim there [ inl same ↦ inl (ap place_at same ∙ is) | inr further ↦ inr (are.stand other further) ];
          each =
              λ y there.
              elim there [
                | inl same ↦ (number, inl refl, is ∙ sym same)
                | inr further ↦ (let (other, within, stands) = are.each y further in (other, inr within, stands))
              ];
        },
      )

  module _ (begun : IsIn start all) (next : S → List S) (closed : (place : S) → IsIn place all → (other : S) → IsIn other (next place) → IsIn other all) where
    pub place_in : (number : ℕ) → IsIn (place_at number) all
    place_in number = elim (found_or_otherwise all start number) [ inl there ↦ there | inr past ↦ subst (λ now. IsIn now all) (sym past) begun ]

    -- the numbers of the places behind
    pub numbers_behind : (number : ℕ) → (numbers : List ℕ) × AreNumbers (next (place_at number)) numbers
    numbers_behind number = numbered (next (place_at number)) (closed (place_at number) (place_in number))

    pub first_number : (number : ℕ) × (number < length all) × (place_at number ≡ start)
    first_number = number_of all start start begun
