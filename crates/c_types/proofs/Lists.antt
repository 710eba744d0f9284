-- Elements of lists that grow at their ends.
use Rattle.std.proofs.Common.{◌≡◌, ℕ, zero, suc, ◌<◌, ◌≤◌, List, [], ◌∷◌, ◌++◌, length, slice_get, Some, refl, sym, ap, ◌∙◌, arith, length-append}
use Rattle.std.proofs.lemmas.Option.{same_Some, slice_get_within}

-- an element of a list stays where more come behind it
pub slice_get-append : {X : Type 0} (xs ys : List X) (i : ℕ) → i < length xs → slice_get (xs ++ ys) i ≡ slice_get xs i
slice_get-append [] ys i within = absurd (omega arith)
slice_get-append (x ∷ xs) ys zero within = refl
slice_get-append (x ∷ xs) ys (suc i) within = slice_get-append xs ys i (omega arith)

-- the last of a list
pub slice_get-last : {X : Type 0} (xs : List X) (x : X) → slice_get (xs ++ x ∷ []) (length xs) ≡ Some x
slice_get-last [] x = refl
slice_get-last (y ∷ xs) x = slice_get-last xs x

-- what stands stays where more come behind it
pub stands-append : {X : Type 0} (xs ys : List X) (i : ℕ) (x : X) → slice_get xs i ≡ Some x → slice_get (xs ++ ys) i ≡ Some x
stands-append xs ys i x stands = slice_get-append xs ys i (slice_get_within xs i x stands) ∙ stands

-- a place among one element more that is past the others is the last
pub last_place : {X : Type 0} (xs : List X) (x : X) (i : ℕ) (y : X) → slice_get (xs ++ x ∷ []) i ≡ Some y → length xs ≤ i → (i ≡ length xs) × (x ≡ y)
last_place xs x i y found past =
    let within = slice_get_within (xs ++ x ∷ []) i y found in
    let here : i ≡ length xs = omega (arith, within, length-append xs (x ∷ [])) in
    (here, same_Some _ _ (sym (slice_get-last xs x) ∙ ap (slice_get (xs ++ x ∷ [])) (sym here) ∙ found))
