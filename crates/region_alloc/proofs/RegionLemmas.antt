-- Lemmas on a region, which is two chains of vectors.
use Rattle.std.proofs.Common.{◌≡◌, ℕ, zero, suc, ◌+◌, ◌-◌, ◌≤◌, List, [], ◌∷◌, ◌++◌, length, set, take, drop, Some, refl, sym, ap, ◌∙◌, append_assoc, append-nil, arith, length-append}
use Rattle.std.proofs.lemmas.List.{set-append_right, take-append-drop, length-take}
use Rattle.std.specs.List.{slice_get}
use Rattle.std.specs.Global.{Vec}
use Rattle.chunk_list.specs.Chunks.{IsPlaceInFront, contents, items_of, with_front_item}
use Rattle.chunk_list.proofs.ChunkLemmas.{length-le-contents, contents-append, contents-with_front_item, AllFilled-append, AllFilled-take, AllFilled-drop, slice_get-append_right}

-- what joined chains hold, and how many vectors they have
pub ruleset joined = (length-le-contents, contents-append, AllFilled-append, AllFilled-take, AllFilled-drop, append_assoc, append-nil, length-append, length-take)

-- a chain that is cut before the vector of a place
module _ {X : Type 0} (whole front tail : List (Vec X)) (index place h : ℕ) where
  -- both parts hold the list
  pub contents-cut : front ≡ take index whole → tail ≡ drop index whole → contents items_of front ++ contents items_of tail ≡ contents items_of whole
  contents-cut f t =
      sym (contents-append items_of front tail) ∙ ap (contents items_of) (ap (λ l. l ++ tail) f ∙ ap (λ l. take index whole ++ l) t ∙ take-append-drop index whole)

  -- an item that is replaced behind the cut is that of the whole list
  pub set-behind_cut : (w : X) → front ≡ take index whole → tail ≡ drop index whole → h ≡ length (contents items_of front) + place → IsPlaceInFront items_of tail place → contents items_of front ++ contents items_of (with_front_item tail place w) ≡ set (contents items_of whole) h w
  set-behind_cut w f t e i =
      let at : h - length (contents items_of front) ≡ place = omega arith in
      let far : length (contents items_of front) ≤ h = omega arith in
      ap (λ l. contents items_of front ++ l) (contents-with_front_item tail place w i ∙ ap (λ k. set (contents items_of tail) k w) (sym at))
      ∙ sym (set-append_right (contents items_of front) (contents items_of tail) (length (contents items_of front)) h w refl far)
      ∙ ap (λ l. set l h w) (contents-cut f t)

  -- an item behind the cut is one of the whole list
  pub slice_get-behind_cut : (w : X) → front ≡ take index whole → tail ≡ drop index whole → h ≡ length (contents items_of front) + place → slice_get (contents items_of tail) place ≡ Some w → slice_get (contents items_of whole) h ≡ Some w
  slice_get-behind_cut w f t e i =
      ap (λ l. slice_get l h) (sym (contents-cut f t)) ∙ slice_get-append_right (contents items_of front) (contents items_of tail) h place e ∙ i
