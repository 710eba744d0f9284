-- What is handed to the parts of a cell, and what stays as it was.
use Rattle.std.proofs.Common.{◌≡◌, ◌≢◌, ℕ, zero, suc, ◌+◌, ◌<◌, List, [], ◌∷◌, Some, length, slice_get, refl, sym, ap, subst, ◌∙◌, arith, length-set}
use Rattle.std.specs.Prelude.{slice_set}
use Rattle.std.proofs.lemmas.Option.{none-some, same_Some}
use Rattle.meaning_control.specs.laws.Cells.{Cell}
use Rattle.control_cells.specs.Exits.{handed, with_handed}
use Rattle.control_cells.specs.declared.exits.Exits.{Exits}
use Rattle.control_cells.specs.declared.numbers.BlockNumbers.{BlockNumbers}

-- Lists of which one element is set

slice_get-set_same : {X : Type 0} (xs : List X) (place : ℕ) (x : X) → place < length xs → slice_get (slice_set xs place x) place ≡ Some x
slice_get-set_same [] place x within = absurd (omega (arith, within))
slice_get-set_same (first ∷ xs) zero x within = refl
slice_get-set_same (first ∷ xs) (suc place) x within = slice_get-set_same xs place x (omega (arith, within))

slice_get-set_other : {X : Type 0} (xs : List X) (place other : ℕ) (x : X) → place ≢ other → slice_get (slice_set xs place x) other ≡ slice_get xs other
slice_get-set_other [] place other x apart = refl
slice_get-set_other (first ∷ xs) zero zero x apart = absurd (apart refl)
slice_get-set_other (first ∷ xs) zero (suc other) x apart = refl
slice_get-set_other (first ∷ xs) (suc place) zero x apart = refl
slice_get-set_other (first ∷ xs) (suc place) (suc other) x apart = slice_get-set_other xs place other x (λ same. apart (ap suc same))

-- Parts

module _ (numbers : List BlockNumbers) (number : ℕ) (around : Exits) (cell : Cell) where
  pub length-with_handed : (place : ℕ) (parts : List ℕ) (exits : List Exits) → length (with_handed numbers number around cell place parts exits) ≡ length exits
  length-with_handed place [] exits = refl
  length-with_handed place (part ∷ parts) exits =
      length-with_handed (place + 1) parts (slice_set exits part (handed numbers number around cell place))
      ∙ length-set exits part (handed numbers number around cell place)

  -- a cell that is none of the parts
  pub with_handed-other : (place : ℕ) (parts : List ℕ) (exits : List Exits) (other : ℕ)
      → ((k part : ℕ) → slice_get parts k ≡ Some part → part ≡ other → ⊥)
      → slice_get (with_handed numbers number around cell place parts exits) other ≡ slice_get exits other
  with_handed-other place [] exits other none = refl
  with_handed-other place (part ∷ parts) exits other none =
      with_handed-other (place + 1) parts (slice_set exits part (handed numbers number around cell place)) other (λ k later at. none (suc k) later at)
      ∙ slice_get-set_other exits part other (handed numbers number around cell place) (none 0 part refl)

  -- a part that is one only once
  pub with_handed-told : (place : ℕ) (parts : List ℕ) (exits : List Exits) (k part : ℕ)
      → slice_get parts k ≡ Some part → part < length exits
      → ((other later : ℕ) → slice_get parts other ≡ Some later → later ≡ part → other ≡ k)
      → slice_get (with_handed numbers number around cell place parts exits) part ≡ Some (handed numbers number around cell (place + k))
  with_handed-told place [] exits k part at within once = absurd (none-some part at)
  with_handed-told place (first ∷ parts) exits zero part at within once =
      let same : first ≡ part = same_Some first part at in
      let told : Exits = handed numbers number around cell place in
      with_handed-other (place + 1) parts (slice_set exits first told) part
      (λ other later is same. absurd (omega (arith, once (suc other) later is same)))
      ∙ subst (λ (c : ℕ). slice_get (slice_set exits first told) c ≡ Some (handed numbers number around cell (place + 0))) same
      (slice_get-set_same exits first told (subst (λ (c : ℕ). c < length exits) (sym same) within)
      ∙ ap (λ at. Some (handed numbers number around cell at)) (omega arith))
  with_handed-told place (first ∷ parts) exits (suc k) part at within once =
      let told : Exits = handed numbers number around cell place in
      with_handed-told (place + 1) parts (slice_set exits first told) k part at
      (omega (arith, within, length-set exits first told))
      (λ other later is same. omega (arith, once (suc other) later is same))
      ∙ ap (λ at. Some (handed numbers number around cell at)) (omega arith)
