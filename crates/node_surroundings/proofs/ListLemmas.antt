-- Elements of lists of which one is set.
use Rattle.std.proofs.Common.{◌≡◌, ◌≢◌, ℕ, zero, suc, ◌<◌, List, [], ◌∷◌, Some, length, map, get_or, slice_get, replicate, refl, ap, arith}
use Rattle.std.specs.Prelude.{slice_set}

-- it is what was set
pub slice_get-set_same : {X : Type 0} (xs : List X) (place : ℕ) (x : X) → place < length xs → slice_get (slice_set xs place x) place ≡ Some x
slice_get-set_same [] place x within = absurd (omega (arith, within))
slice_get-set_same (first ∷ xs) zero x within = refl
slice_get-set_same (first ∷ xs) (suc place) x within = slice_get-set_same xs place x (omega (arith, within))

-- and another one stays
pub slice_get-set_other : {X : Type 0} (xs : List X) (place other : ℕ) (x : X) → place ≢ other
    → slice_get (slice_set xs place x) other ≡ slice_get xs other
slice_get-set_other [] place other x apart = refl
slice_get-set_other (first ∷ xs) zero zero x apart = absurd (apart refl)
slice_get-set_other (first ∷ xs) zero (suc other) x apart = refl
slice_get-set_other (first ∷ xs) (suc place) zero x apart = refl
slice_get-set_other (first ∷ xs) (suc place) (suc other) x apart = slice_get-set_other xs place other x (λ same. apart (ap suc same))

-- so many times the same
pub map-replicate : {X Y : Type 0} (f : X → Y) (count : ℕ) (x : X) → map f (replicate count x) ≡ replicate count (f x)
map-replicate f zero x = refl
map-replicate f (suc count) x = ap (λ ys. f x ∷ ys) (map-replicate f count x)

pub slice_get-replicate : {X : Type 0} (count : ℕ) (x : X) (place : ℕ) → place < count → slice_get (replicate count x) place ≡ Some x
slice_get-replicate zero x place within = absurd (omega (arith, within))
slice_get-replicate (suc count) x zero within = refl
slice_get-replicate (suc count) x (suc place) within = slice_get-replicate count x place (omega (arith, within))

pub get_or-replicate : {X : Type 0} (count : ℕ) (x : X) (place : ℕ) (d : X) → place < count → get_or (replicate count x) place d ≡ x
get_or-replicate zero x place d within = absurd (omega (arith, within))
get_or-replicate (suc count) x zero d within = refl
get_or-replicate (suc count) x (suc place) d within = get_or-replicate count x place d (omega (arith, within))

-- a list that has an element is there
pub within-get_or : {X : Type 0} (xss : List (List X)) (place number : ℕ) → number < length (get_or xss place []) → place < length xss
within-get_or [] place number below = absurd (omega (arith, below))
within-get_or (xs ∷ xss) zero number below = omega arith
within-get_or (xs ∷ xss) (suc place) number below = omega (arith, within-get_or xss place number below)
