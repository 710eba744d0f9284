-- Places among spellings.
use Rattle.std.proofs.Common.{◌≡◌, ℕ, zero, suc, ◌+◌, Bool, true, false, ◌||◌, List, [], ◌∷◌, Some, slice_get, if◌then◌else◌, refl, sym, ap, ◌∙◌, arith}
use Rattle.std.specs.List.{list_any}
use Rattle.std.specs.Str.{bytes_eq}
use Rattle.std.proofs.lemmas.Option.{same_Some}
use Rattle.std.proofs.lemmas.Slice.Eq.{bytes_eq-Decides}
use Rattle.meaning_unit_nodes.specs.Numbered.{place_told, number_told}

-- by whether the first spelling is the one that is looked for

stands-by : (first : List ℕ) (told : List (List ℕ)) (spelling : List ℕ) (same : Bool) → (same ≡ true → spelling ≡ first) → (same || list_any (bytes_eq spelling) told) ≡ true
    → (list_any (bytes_eq spelling) told ≡ true → slice_get told (place_told told spelling) ≡ Some spelling)
    → slice_get (first ∷ told) (if same then 0 else 1 + place_told told spelling) ≡ Some spelling
stands-by first told spelling true is among rest = ap Some (sym (is refl))
stands-by first told spelling false is among rest = later (1 + place_told told spelling) (place_told told spelling) (omega arith) (rest among)
  where
    later : (place before : ℕ) → place ≡ 1 + before → slice_get told before ≡ Some spelling → slice_get (first ∷ told) place ≡ Some spelling
    later zero before after stands = absurd (omega (arith, after))
    later (suc place) before after stands = ap (slice_get told) (omega (arith, after)) ∙ stands

-- a spelling stands at its place
pub place_told-stands : (told : List (List ℕ)) (spelling : List ℕ) → list_any (bytes_eq spelling) told ≡ true → slice_get told (place_told told spelling) ≡ Some spelling
place_told-stands [] spelling among = absurd (cc among)
place_told-stands (first ∷ told) spelling among =
    stands-by first told spelling (bytes_eq spelling first) (bytes_eq-Decides spelling first).0 among (place_told-stands told spelling)

is-by : (first : List ℕ) (told : List (List ℕ)) (spelling found : List ℕ) (same : Bool) → (same ≡ true → spelling ≡ first)
    → (slice_get told (place_told told spelling) ≡ Some found → found ≡ spelling)
    → slice_get (first ∷ told) (if same then 0 else 1 + place_told told spelling) ≡ Some found → found ≡ spelling
is-by first told spelling found true is rest stands = sym (same_Some first found stands) ∙ sym (is refl)
is-by first told spelling found false is rest stands = rest (earlier (1 + place_told told spelling) (place_told told spelling) (omega arith) stands)
  where
    earlier : (place before : ℕ) → place ≡ 1 + before → slice_get (first ∷ told) place ≡ Some found → slice_get told before ≡ Some found
    earlier zero before after stands = absurd (omega (arith, after))
    earlier (suc place) before after stands = ap (slice_get told) (omega (arith, after)) ∙ stands

-- and nothing else does
pub place_told-is : (told : List (List ℕ)) (spelling found : List ℕ) → slice_get told (place_told told spelling) ≡ Some found → found ≡ spelling
place_told-is [] spelling found stands = absurd (cc stands)
place_told-is (first ∷ told) spelling found stands =
    is-by first told spelling found (bytes_eq spelling first) (bytes_eq-Decides spelling first).0 (place_told-is told spelling found) stands

same_number : (told : List (List ℕ)) (spelling other : List ℕ) → list_any (bytes_eq spelling) told ≡ true → place_told told spelling ≡ place_told told other → spelling ≡ other
same_number told spelling other among same =
    place_told-is told other spelling (ap (slice_get told) (sym same) ∙ place_told-stands told spelling among)

first_same : {X : Type 0} (x y : X) (xs ys : List X) → x ∷ xs ≡ y ∷ ys → x ≡ y
first_same x y xs ys same = cc same

-- what is among spellings has a number of its own
pub number_told-apart : (told : List (List ℕ)) (spelling other : List ℕ) → list_any (bytes_eq spelling) told ≡ true → number_told told spelling ≡ number_told told other → spelling ≡ other
number_told-apart told [] [] among same = refl
number_told-apart told [] (byte ∷ bytes) among same = absurd (cc same)
number_told-apart told (byte ∷ bytes) [] among same = absurd (cc same)
number_told-apart told (byte ∷ bytes) (other ∷ others) among same =
    same_number told (byte ∷ bytes) (other ∷ others) among (first_same (place_told told (byte ∷ bytes)) (place_told told (other ∷ others)) [] [] same)
