-- Lists that are known from their ends.
use Rattle.std.proofs.Common.{◌≡◌, ◌<◌, ◌-◌, List, [], ◌∷◌, ◌++◌, length, map, take, drop, slice_get, get_or, Some, refl, sym, ap, ◌∙◌, arith, length-append}
use Rattle.std.proofs.lemmas.List.{append_assoc, append-nil}
use Rattle.std.proofs.Math.Seq.{drop-append_seam, take-append_seam, get_or-append_seam}
use Rattle.std.proofs.lemmas.Option.{slice_get-get_or}
use Rattle.c_macros.specs.Waiting.{backwards}

abbrev first_or : {X : Type 0} → X → List X → X
first_or d [] = d
first_or d (x ∷ xs) = x

-- two lists with their last elements
pub ends-same : {X : Type 0} (xs ys : List X) (x y : X) → xs ++ x ∷ [] ≡ ys ++ y ∷ [] → (xs ≡ ys) × (x ≡ y)
ends-same xs ys x y same =
    let count : length xs ≡ length ys = omega (arith, ap length same, length-append xs (x ∷ []), length-append ys (y ∷ [])) in (
      sym (take-append_seam xs (x ∷ [])) ∙ ap (take (length xs)) same ∙ ap (λ n. take n (ys ++ y ∷ [])) count ∙ take-append_seam ys (y ∷ []),
      ap (first_or x) (sym (drop-append_seam xs (x ∷ [])) ∙ ap (drop (length xs)) same ∙ ap (λ n. drop n (ys ++ y ∷ [])) count ∙ drop-append_seam ys (y ∷ [])),
    )

-- what stands in front of lists of one length is the same
pub fronts-same : {X : Type 0} (xs ys vs us : List X) → xs ++ vs ≡ ys ++ us → length xs ≡ length ys → (xs ≡ ys) × (vs ≡ us)
fronts-same xs ys vs us same count = (
  sym (take-append_seam xs vs) ∙ ap (take (length xs)) same ∙ ap (λ n. take n (ys ++ us)) count ∙ take-append_seam ys us,
  sym (drop-append_seam xs vs) ∙ ap (drop (length xs)) same ∙ ap (λ n. drop n (ys ++ us)) count ∙ drop-append_seam ys us,
)

pub length-backwards : {X : Type 0} (xs : List X) → length (backwards xs) ≡ length xs
length-backwards [] = refl
length-backwards (x ∷ xs) = length-append (backwards xs) (x ∷ []) ∙ omega (arith, length-backwards xs)

pub backwards-append : {X : Type 0} (xs ys : List X) → backwards (xs ++ ys) ≡ backwards ys ++ backwards xs
backwards-append [] ys = sym (append-nil (backwards ys))
backwards-append (x ∷ xs) ys = ap (λ zs. zs ++ x ∷ []) (backwards-append xs ys) ∙ append_assoc (backwards ys) (backwards xs) (x ∷ [])

pub backwards-backwards : {X : Type 0} (xs : List X) → backwards (backwards xs) ≡ xs
backwards-backwards [] = refl
backwards-backwards (x ∷ xs) = backwards-append (backwards xs) (x ∷ []) ∙ ap (λ zs. x ∷ zs) (backwards-backwards xs)

pub map-append : {X Y : Type 0} (f : X → Y) (xs ys : List X) → map f (xs ++ ys) ≡ map f xs ++ map f ys
map-append f [] ys = refl
map-append f (x ∷ xs) ys = ap (λ zs. f x ∷ zs) (map-append f xs ys)

-- an element on top of a list that is kept the other way round, above what is below
pub record Top {X : Type 0} (below now rest : List X) (x : X) : Type 0 where
  pub under : List X
  pub is : now ≡ x ∷ under
  pub left : rest ≡ below ++ backwards under

pub popped : {X : Type 0} (below now rest : List X) (x : X) → below ++ backwards now ≡ rest ++ x ∷ [] → length below < length (below ++ backwards now) → Top below now rest x
popped below [] rest x same above = absurd (omega (arith, above, ap length (append-nil below)))
popped below (t ∷ ts) rest x same above =
    let both = ends-same (below ++ backwards ts) rest t x (append_assoc below (backwards ts) (t ∷ []) ∙ same) in
    record { under = ts; is = ap (λ y. y ∷ ts) both.1; left = sym both.0 }

-- the last element
pub last-of : {X : Type 0} (xs : List X) (x : X) → slice_get (xs ++ x ∷ []) (length (xs ++ x ∷ []) - 1) ≡ Some x
last-of xs x =
    slice_get-get_or (xs ++ x ∷ []) (length (xs ++ x ∷ []) - 1) x (omega (arith, length-append xs (x ∷ [])))
    ∙ ap (λ n. Some (get_or (xs ++ x ∷ []) n x)) (omega (arith, length-append xs (x ∷ []))) ∙ ap Some (get_or-append_seam xs x [] x)
