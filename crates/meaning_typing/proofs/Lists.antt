-- Lists by their elements.
use Rattle.std.proofs.Common.{◌≡◌, ℕ, zero, suc, ◌<◌, List, [], ◌∷◌, ◌++◌, length, Some, slice_get, refl, sym, ap₂, arith}
use Rattle.std.proofs.lemmas.Option.{none-some, same_Some}

-- lists with the same elements are the same
pub same_lists : {X : Type 0} (xs ys : List X) → ((k : ℕ) → slice_get xs k ≡ slice_get ys k) → xs ≡ ys
same_lists [] [] same = refl
same_lists [] (y ∷ ys) same = absurd (none-some y (same 0))
same_lists (x ∷ xs) [] same = absurd (none-some x (sym (same 0)))
same_lists (x ∷ xs) (y ∷ ys) same = ap₂ (λ e es. e ∷ es) (same_Some x y (same 0)) (same_lists xs ys (λ k. same (suc k)))

-- an element stays where more are put behind it
pub stays_at : {X : Type 0} (xs ys : List X) (k : ℕ) → k < length xs → slice_get (xs ++ ys) k ≡ slice_get xs k
stays_at [] ys k within = absurd (omega (arith, within))
stays_at (x ∷ xs) ys zero within = refl
stays_at (x ∷ xs) ys (suc k) within = stays_at xs ys k (omega (arith, within))

-- and one that is put behind a list stands at its length
pub put_at : {X : Type 0} (xs : List X) (x : X) → slice_get (xs ++ x ∷ []) (length xs) ≡ Some x
put_at [] x = refl
put_at (y ∷ xs) x = put_at xs x
