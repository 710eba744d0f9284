-- Lists by numbers, of which one grows at its end.
use Rattle.std.proofs.Common.{◌≡◌, ◌⊎◌, inl, inr, ℕ, zero, suc, ◌+◌, ◌<◌, List, [], ◌∷◌, ◌++◌, length, get_or, slice_get, take, drop, Some, replicate, refl, sym, ap, subst, ◌∙◌, arith}
use Rattle.std.specs.Prelude.{slice_set}
use Rattle.std.specs.Global.{Vec}
use Rattle.std.proofs.lemmas.Bool.{cases_eq}
use Rattle.std.proofs.lemmas.List.{get_or-set_same, get_or-set_other, length-replicate}
use Rattle.std.proofs.lemmas.Option.{none-some, same_Some}
use Rattle.meaning_paths.specs.Walks.{IsIn}
use Rattle.control_cells.specs.Labels.{row_at, rows, with_pushed}

-- Elements

-- an element stays where one more joins the list
pub get_or-more : {X : Type 0} (xs : List X) (x d : X) (k : ℕ) → k < length xs → get_or (xs ++ x ∷ []) k d ≡ get_or xs k d
get_or-more [] x d k within = absurd (omega (arith, within))
get_or-more (first ∷ xs) x d zero within = refl
get_or-more (first ∷ xs) x d (suc k) within = get_or-more xs x d k (omega (arith, within))

-- Membership

pub in_pushed_from : {X : Type 0} (xs : List X) (x y : X) → IsIn y (xs ++ x ∷ []) → IsIn y xs ⊎ (y ≡ x)
in_pushed_from [] x y (inl is) = inr is
in_pushed_from [] x y (inr none) = absurd none
in_pushed_from (first ∷ xs) x y (inl is) = inl (inl is)
in_pushed_from (first ∷ xs) x y (inr there) =
    elim (in_pushed_from xs x y there) [
      | inl before ↦ inl (inr before)
      | inr is ↦ inr is
    ]

pub in_pushed_to : {X : Type 0} (xs : List X) (x y : X) → IsIn y xs ⊎ (y ≡ x) → IsIn y (xs ++ x ∷ [])
in_pushed_to [] x y (inl none) = absurd none
in_pushed_to [] x y (inr is) = inl is
in_pushed_to (first ∷ xs) x y (inl (inl is)) = inl is
in_pushed_to (first ∷ xs) x y (inl (inr there)) = inr (in_pushed_to xs x y (inl there))
in_pushed_to (first ∷ xs) x y (inr is) = inr (in_pushed_to xs x y (inr is))

-- Rows

-- a list of vectors of which one has grown
pub rows-pushed : (lists : List (Vec ℕ)) (place : ℕ) (old new : Vec ℕ) (number : ℕ) → slice_get lists place ≡ Some old
    → new.items ≡ old.items ++ number ∷ [] → rows (slice_set lists place new) ≡ with_pushed (rows lists) place number
rows-pushed [] place old new number is grown = absurd (none-some old is)
rows-pushed (list ∷ lists) zero old new number is grown =
    ap (λ row. row ∷ rows lists) (grown ∙ ap (λ (v : Vec ℕ). v.items ++ number ∷ []) (sym (same_Some list old is)))
rows-pushed (list ∷ lists) (suc place) old new number is grown = ap (λ more. list.items ∷ more) (rows-pushed lists place old new number is grown)

row_at-replicate : (count place : ℕ) → row_at (replicate count []) place ≡ []
row_at-replicate zero place = refl
row_at-replicate (suc count) zero = refl
row_at-replicate (suc count) (suc place) = row_at-replicate count place

pub record AreEmpty (count : ℕ) (lists : List (List ℕ)) : Type 0 where
  pub length_is : length lists ≡ count
  pub none : (place : ℕ) → row_at lists place ≡ []

pub empty_rows : (count : ℕ) (lists : List (List ℕ)) → lists ≡ replicate count [] → AreEmpty count lists
empty_rows count lists is =
    record {
      length_is = ap length is ∙ length-replicate count [];
      none = λ place. ap (λ all. row_at all place) is ∙ row_at-replicate count place;
    }

module _ (lists : List (List ℕ)) (place number at : ℕ) (within : at < length lists) where
  same_row : at ≡ place → row_at (with_pushed lists place number) at ≡ row_at lists place ++ number ∷ []
  same_row same =
      ap (row_at (with_pushed lists place number)) same
      ∙ get_or-set_same lists place (row_at lists place ++ number ∷ []) [] (subst (λ k. k < length lists) same within)

  other_row : (at ≡ place → ⊥) → row_at (with_pushed lists place number) at ≡ row_at lists at
  other_row apart = get_or-set_other lists place at (row_at lists place ++ number ∷ []) [] apart

  pub row_pushed_from : (other : ℕ) → IsIn other (row_at (with_pushed lists place number) at) → IsIn other (row_at lists at) ⊎ ((other ≡ number) × (at ≡ place))
  row_pushed_from other there =
      elim (cases_eq at place) [
        | inl same ↦ here same (in_pushed_from (row_at lists place) number other (subst (λ row. IsIn other row) (same_row same) there))
        | inr apart ↦ inl (subst (λ row. IsIn other row) (other_row apart) there)
      ]
    where
      here : at ≡ place → IsIn other (row_at lists place) ⊎ (other ≡ number) → IsIn other (row_at lists at) ⊎ ((other ≡ number) × (at ≡ place))
      here same (inl before) = inl (subst (λ k. IsIn other (row_at lists k)) (sym same) before)
      here same (inr is) = inr (is, same)

  pub row_pushed_to : (other : ℕ) → IsIn other (row_at lists at) ⊎ ((other ≡ number) × (at ≡ place)) → IsIn other (row_at (with_pushed lists place number) at)
  row_pushed_to other (inl before) =
      elim (cases_eq at place) [
        | inl same ↦
            subst (λ row. IsIn other row) (sym (same_row same))
            (in_pushed_to (row_at lists place) number other (inl (subst (λ k. IsIn other (row_at lists k)) same before)))
        | inr apart ↦ subst (λ row. IsIn other row) (sym (other_row apart)) before
      ]
  row_pushed_to other (inr (is, same)) =
      subst (λ row. IsIn other row) (sym (same_row same)) (in_pushed_to (row_at lists place) number other (inr is))

-- what a list of vectors has at a place
pub row_at-read : (lists : List (Vec ℕ)) (place : ℕ) (list : Vec ℕ) → slice_get lists place ≡ Some list → row_at (rows lists) place ≡ list.items
row_at-read [] place list is = absurd (none-some list is)
row_at-read (first ∷ lists) zero list is = ap (λ (v : Vec ℕ). v.items) (same_Some first list is)
row_at-read (first ∷ lists) (suc place) list is = row_at-read lists place list is

-- one more of the first elements
pub take-more : (xs : List ℕ) (count : ℕ) → count < length xs → take (count + 1) xs ≡ take count xs ++ get_or xs count 0 ∷ []
take-more [] count within = absurd (omega (arith, within))
take-more (x ∷ xs) zero within = refl
take-more (x ∷ xs) (suc count) within =
    let next : suc count + 1 ≡ suc (count + 1) = omega arith in
    ap (λ n. take n (x ∷ xs)) next ∙ ap (λ more. x ∷ more) (take-more xs count (omega (arith, within)))

pub drop-more : (xs : List ℕ) (count : ℕ) → count < length xs → drop count xs ≡ get_or xs count 0 ∷ drop (count + 1) xs
drop-more [] count within = absurd (omega (arith, within))
drop-more (x ∷ xs) zero within = refl
drop-more (x ∷ xs) (suc count) within =
    let next : suc (count + 1) ≡ suc count + 1 = omega arith in
    drop-more xs count (omega (arith, within)) ∙ ap (λ n. get_or xs count 0 ∷ drop n (x ∷ xs)) next

-- the elements from one on are that one and those behind it
pub drop-item : {X : Type 0} (xs : List X) (count : ℕ) (x : X) → count < length xs → x ≡ get_or xs count x → drop count xs ≡ x ∷ drop (count + 1) xs
drop-item [] count x within is = absurd (omega (arith, within))
drop-item (first ∷ xs) zero x within is = ap (λ it. it ∷ xs) (sym is)
drop-item (first ∷ xs) (suc count) x within is =
    let next : suc (count + 1) ≡ suc count + 1 = omega arith in
    drop-item xs count x (omega (arith, within)) is ∙ ap (λ n. x ∷ drop n (first ∷ xs)) next
