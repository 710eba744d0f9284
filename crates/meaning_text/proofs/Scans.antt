-- A length that is found from the left, and a test of whole spellings, that go together.
use Rattle.std.proofs.Common.{◌≡◌, ℕ, suc, ◌+◌, ◌<◌, ◌≤◌, Bool, true, false, not, ◌&&◌, if◌then◌else◌, List, [], ◌∷◌, ◌++◌, length, take, Option, Some, None, refl, sym, ap, ◌∙◌, subst, inl, inr, true≢false, arith, one-add}
use Rattle.std.proofs.lemmas.Bool.{cases_Bool}
use Rattle.std.proofs.lemmas.Option.{none-some, same_Some}
use Rattle.meaning_text.specs.Quoted.{is_empty}
use Rattle.meaning_text.specs.Fronts.{longer_by}

-- The front of this length is within the text, and passes.
pub record Passes (is : List ℕ → Bool) (text : List ℕ) (count : ℕ) : Type 0 where
  pub some : 0 < count
  pub within : count ≤ length text
  pub is_one : is (take count text) ≡ true

-- A length is found where a front passes, and there alone, and it is the length of that front.
pub record MeasuresFronts (found : List ℕ → Option ℕ) (is : List ℕ → Bool) : Type 0 where
  pub passes : (text : List ℕ) (count : ℕ) → found text ≡ Some count → Passes is text count
  pub finds : (front rest : List ℕ) → is front ≡ true → found (front ++ rest) ≡ Some (length front)

-- a length with more before it comes from the length behind that
pub longer_by-Some : (more count : ℕ) (found : Option ℕ) → longer_by more found ≡ Some count → (behind : ℕ) × (found ≡ Some behind) × (count ≡ more + behind)
longer_by-Some more count None e = absurd (none-some count e)
longer_by-Some more count (Some behind) e = (behind, refl, sym (same_Some _ _ e))

-- the same for one byte, where what follows from the length behind it holds
pub longer_by_one : (P : ℕ → Type 0) (count : ℕ) (found : Option ℕ) → longer_by 1 found ≡ Some count → ((behind : ℕ) → found ≡ Some behind → P (suc behind)) → P count
longer_by_one P count found e from =
    let inner = longer_by-Some 1 count found e in
    subst P (sym (inner.2 ∙ one-add inner.0)) (from inner.0 inner.1)

-- an empty text
is_empty-true : (text : List ℕ) → is_empty text ≡ true → text ≡ []
is_empty-true [] empty = refl
is_empty-true (b ∷ text) empty = absurd (true≢false (sym empty))

module _ (stops : ℕ → Bool) (closes next : Bool → ℕ → Bool) (found : Bool → List ℕ → Option ℕ) (ends : Bool → List ℕ → Bool)
    (found-nil : (state : Bool) → found state [] ≡ None)
    (found-cons : (state : Bool) (b : ℕ) (text : List ℕ)
    → found state (b ∷ text) ≡ (if stops b then None else (if closes state b then Some 1 else longer_by 1 (found (next state b) text))))
    (ends-nil : (state : Bool) → ends state [] ≡ false)
    (ends-cons : (state : Bool) (b : ℕ) (text : List ℕ)
    → ends state (b ∷ text) ≡ (not (stops b) && (if closes state b then is_empty text else ends (next state b) text))) where
  -- the front of the found length ends where it should
  scan-passes : (state : Bool) (text : List ℕ) (count : ℕ) → found state text ≡ Some count → Passes (ends state) text count
  scan-passes state [] count e = absurd (none-some count (sym (found-nil state) ∙ e))
  scan-passes state (b ∷ text) count e =
      let here = sym (found-cons state b text) ∙ e in
      elim (cases_Bool (stops b)) [
        | inl stop ↦ absurd (none-some count (rw stop at here))
        | inr goes ↦ elim (cases_Bool (closes state b)) [
          | inl close ↦
              subst (Passes (ends state) (b ∷ text)) (same_Some 1 count (rw (goes, close) at here))
              (record { some = omega arith; within = omega arith; is_one = ends-cons state b [] ∙ rw (goes, close) refl })
          | inr further ↦
              longer_by_one (Passes (ends state) (b ∷ text)) count (found (next state b) text) (rw (goes, further) at here) (λ behind inner.
              let rest = scan-passes (next state b) text behind inner in
              record { some = omega arith; within = omega arith; is_one = ends-cons state b (take behind text) ∙ rw (goes, further) rest.is_one })
        ]
      ]

  -- a front that ends so is found
  scan-finds : (state : Bool) (front rest : List ℕ) → ends state front ≡ true → found state (front ++ rest) ≡ Some (length front)
  scan-finds state [] rest e = absurd (true≢false (sym e ∙ ends-nil state))
  scan-finds state (b ∷ front) rest e =
      let here = sym (ends-cons state b front) ∙ e in
      elim (cases_Bool (stops b)) [
        | inl stop ↦ absurd (true≢false (sym (rw stop at here)))
        | inr goes ↦ elim (cases_Bool (closes state b)) [
          | inl close ↦
              let empty : front ≡ [] = is_empty-true front (rw (goes, close) at here) in
              found-cons state b (front ++ rest) ∙ rw (goes, close) (ap (λ (tail : List ℕ). Some (length (b ∷ tail))) (sym empty))
          | inr further ↦
              found-cons state b (front ++ rest)
              ∙ rw (goes, further) (ap (longer_by 1) (scan-finds (next state b) front rest (rw (goes, further) at here)) ∙ ap Some (one-add (length front)))
        ]
      ]

  -- so such a length and such a test go together
  pub scan_measures : (state : Bool) → MeasuresFronts (found state) (ends state)
  scan_measures state = record { passes = scan-passes state; finds = scan-finds state }
