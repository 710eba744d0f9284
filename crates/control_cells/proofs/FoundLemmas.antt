-- Labels below a cell: those of which it is the owner.
use Rattle.std.proofs.Common.{◌≡◌, ◌⊎◌, inl, inr, ℕ, zero, suc, ◌+◌, ◌-◌, ◌<◌, ◌≤◌, Bool, true, false, List, [], ◌∷◌, ◌++◌, Option, Some, None, length, slice_get, refl, sym, ap, subst, ◌∙◌, arith, if◌then◌else◌}
use Rattle.std.proofs.lemmas.Bool.{cases_Bool, cases_lt, cond-true, cond-false}
use Rattle.std.proofs.lemmas.Option.{none-some, same_Some, get_or_from_slice_get}
use Rattle.meaning_paths.specs.Walks.{IsIn}
use Rattle.meaning_control.specs.Kinds.{ControlKind}
use Rattle.meaning_control.specs.laws.Cells.{Cell, LabelledBlock, found_among, found_in}
use Rattle.control_cells.specs.Exits.{HasPart}
use Rattle.control_cells.specs.Seen.{cell_at, no_cell}
use Rattle.control_cells.specs.Tables.{found_below, found_over}
use Rattle.control_cells.specs.Trees.{IsOneTree}
use Rattle.control_cells.proofs.PassLemmas.{slice_get-get_or, number_within}

-- Lists

pub in_front : {X : Type 0} (x : X) (xs ys : List X) → IsIn x xs → IsIn x (xs ++ ys)
in_front x [] ys there = absurd there
in_front x (y ∷ xs) ys (inl is) = inl is
in_front x (y ∷ xs) ys (inr there) = inr (in_front x xs ys there)

pub in_back : {X : Type 0} (x : X) (xs ys : List X) → IsIn x ys → IsIn x (xs ++ ys)
in_back x [] ys there = there
in_back x (y ∷ xs) ys there = inr (in_back x xs ys there)

pub in_either : {X : Type 0} (x : X) (xs ys : List X) → IsIn x (xs ++ ys) → IsIn x xs ⊎ IsIn x ys
in_either x [] ys there = inr there
in_either x (y ∷ xs) ys (inl is) = inl (inl is)
in_either x (y ∷ xs) ys (inr there) =
    elim (in_either x xs ys there) [
      | inl front ↦ inl (inr front)
      | inr back ↦ inr back
    ]

module _ (is_sought ends : ControlKind → Bool) (cells : List Cell) (tree : IsOneTree cells) (entry : ℕ → ℕ) where
  abbrev Found : (found : ℕ → List LabelledBlock) → (number : ℕ) → List LabelledBlock
  Found found number = found_in is_sought ends entry found number (slice_get cells number)

  abbrev Among : (found : ℕ → List LabelledBlock) → (parts : List ℕ) → List LabelledBlock
  Among found parts = found_among cells is_sought ends entry found parts

  -- Equations

  same_in : (one other : ℕ → List LabelledBlock) (number : ℕ) (found : Option Cell) → one number ≡ other number
      → found_in is_sought ends entry one number found ≡ found_in is_sought ends entry other number found
  same_in one other number None same = refl
  same_in one other number (Some cell) same =
      ap (λ below. (if is_sought cell.kind then (cell.kind, entry number) ∷ [] else []) ++ (if ends cell.kind then [] else below)) same

  same_among : (one other : ℕ → List LabelledBlock) (parts : List ℕ) → ((place part : ℕ) → slice_get parts place ≡ Some part → one part ≡ other part)
      → Among one parts ≡ Among other parts
  same_among one other [] same = refl
  same_among one other (part ∷ parts) same =
      ap (λ first. first ++ Among one parts) (same_in one other part (slice_get cells part) (same 0 part refl))
      ∙ ap (λ behind. Found other part ++ behind) (same_among one other parts (λ place later at. same (suc place) later at))

  -- how deep it is looked doesn't matter
  deep_enough : (depth other number : ℕ) → number < depth → number < other
      → found_over is_sought ends cells entry depth number ≡ found_over is_sought ends cells entry other number
  deep_enough zero other number within also = absurd (omega (arith, within))
  deep_enough (suc depth) zero number within also = absurd (omega (arith, also))
  deep_enough (suc depth) (suc other) number within also =
      same_among (found_over is_sought ends cells entry depth) (found_over is_sought ends cells entry other) (cell_at cells number).parts
      (λ place part at.
      let before : part < number = tree.each.before number place part at in
      deep_enough depth other part (omega (arith, before, within)) (omega (arith, before, also)))

  abbrev below : ℕ → List LabelledBlock
  below = found_below is_sought ends cells entry

  below_of : (number : ℕ) → below number ≡ Among below (cell_at cells number).parts
  below_of number =
      same_among (found_over is_sought ends cells entry number) below (cell_at cells number).parts
      (λ place part at. deep_enough number (suc part) part (tree.each.before number place part at) (omega arith))

  pub found_of : (number : ℕ) (cell : Cell) → slice_get cells number ≡ Some cell → below number ≡ Among below cell.parts
  found_of number cell has = below_of number ∙ ap (λ (c : Cell). Among below c.parts) (get_or_from_slice_get cells number cell no_cell has)

  -- Members

  among_to : (found : ℕ → List LabelledBlock) (parts : List ℕ) (place part : ℕ) (x : LabelledBlock) → slice_get parts place ≡ Some part
      → IsIn x (Found found part) → IsIn x (Among found parts)
  among_to found [] place part x at there = absurd (none-some part at)
  among_to found (first ∷ parts) zero part x at there =
      in_front x (Found found first) (Among found parts) (subst (λ p. IsIn x (Found found p)) (sym (same_Some first part at)) there)
  among_to found (first ∷ parts) (suc place) part x at there =
      in_back x (Found found first) (Among found parts) (among_to found parts place part x at there)

  among_from : (found : ℕ → List LabelledBlock) (parts : List ℕ) (x : LabelledBlock) → IsIn x (Among found parts)
      → (place part : ℕ) × (slice_get parts place ≡ Some part) × IsIn x (Found found part)
  among_from found [] x there = absurd there
  among_from found (first ∷ parts) x there =
      elim (in_either x (Found found first) (Among found parts) there) [
        | inl here ↦ (0, first, refl, here)
        | inr behind ↦ let (place, part, at, is) = among_from found parts x behind in (suc place, part, at, is)
      ]

  -- a label itself, and those below a cell that isn't one of those that end the search
  own_label : (found : ℕ → List LabelledBlock) (number : ℕ) → number < length cells → is_sought (cell_at cells number).kind ≡ true
      → IsIn ((cell_at cells number).kind, entry number) (Found found number)
  own_label found number within is =
      subst (λ cell. IsIn ((cell_at cells number).kind, entry number) (found_in is_sought ends entry found number cell)) (sym (slice_get-get_or cells number no_cell within))
      (in_front ((cell_at cells number).kind, entry number) (if is_sought (cell_at cells number).kind then ((cell_at cells number).kind, entry number) ∷ [] else [])
      (if ends (cell_at cells number).kind then [] else found number)
      (subst (λ list. IsIn ((cell_at cells number).kind, entry number) list)
      (sym (cond-true (is_sought (cell_at cells number).kind) (((cell_at cells number).kind, entry number) ∷ []) [] is)) (inl refl)))

  inner_label : (found : ℕ → List LabelledBlock) (number : ℕ) (x : LabelledBlock) → number < length cells → ends (cell_at cells number).kind ≡ false
      → IsIn x (found number) → IsIn x (Found found number)
  inner_label found number x within goes_on there =
      subst (λ cell. IsIn x (found_in is_sought ends entry found number cell)) (sym (slice_get-get_or cells number no_cell within))
      (in_back x (if is_sought (cell_at cells number).kind then ((cell_at cells number).kind, entry number) ∷ [] else [])
      (if ends (cell_at cells number).kind then [] else found number)
      (subst (λ list. IsIn x list) (sym (cond-false (ends (cell_at cells number).kind) [] (found number) goes_on)) there))

  -- it is one of both
  one_of_both : (x : LabelledBlock) (kind : ControlKind) (block : ℕ) (sought ended : Bool) (list : List LabelledBlock)
      → IsIn x ((if sought then (kind, block) ∷ [] else []) ++ (if ended then [] else list))
      → ((sought ≡ true) × (x ≡ (kind, block))) ⊎ ((ended ≡ false) × IsIn x list)
  one_of_both x kind block true true list (inl is) = inl (refl, is)
  one_of_both x kind block true true list (inr none) = absurd none
  one_of_both x kind block true false list (inl is) = inl (refl, is)
  one_of_both x kind block true false list (inr there) = inr (refl, there)
  one_of_both x kind block false true list there = absurd there
  one_of_both x kind block false false list there = inr (refl, there)

  own_or_inner : (found : ℕ → List LabelledBlock) (number : ℕ) (x : LabelledBlock) → number < length cells → IsIn x (Found found number)
      → ((is_sought (cell_at cells number).kind ≡ true) × (x ≡ ((cell_at cells number).kind, entry number)))
      ⊎ ((ends (cell_at cells number).kind ≡ false) × IsIn x (found number))
  own_or_inner found number x within there =
      one_of_both x (cell_at cells number).kind (entry number) (is_sought (cell_at cells number).kind) (ends (cell_at cells number).kind) (found number)
      (subst (λ cell. IsIn x (found_in is_sought ends entry found number cell)) (slice_get-get_or cells number no_cell within) there)

  -- Owners

  module _ (around : ℕ → Option ℕ) (none : around (length cells - 1) ≡ None)
      (handed : (number place part : ℕ) → HasPart cells number place part → around part ≡ (if ends (cell_at cells number).kind then Some number else around number))
    where
      -- the label is one of this cell
      pub record IsLabelOf (x : LabelledBlock) (owner : Option ℕ) : Type 0 where
        pub label : ℕ
        pub within : label < length cells
        pub sought : is_sought (cell_at cells label).kind ≡ true
        pub is : x ≡ ((cell_at cells label).kind, entry label)
        pub owned : around label ≡ owner

      abbrev inside : ℕ → Option ℕ
      inside number = if ends (cell_at cells number).kind then Some number else around number

      found_owned : (depth number : ℕ) (x : LabelledBlock) → IsIn x (found_over is_sought ends cells entry depth number) → IsLabelOf x (inside number)
      found_owned zero number x there = absurd there
      found_owned (suc depth) number x there =
          let (place, part, at, here) = among_from (found_over is_sought ends cells entry depth) (cell_at cells number).parts x there in
          let parent : number < length cells = number_within cells number place part at in
          let within : part < length cells = omega (arith, parent, tree.each.before number place part at) in
          elim (own_or_inner (found_over is_sought ends cells entry depth) part x within here) [
            | inl own ↦ record { label = part; within = within; sought = own.0; is = own.1; owned = handed number place part at }
            | inr inner ↦
                subst (λ owner. IsLabelOf x owner) (cond-false (ends (cell_at cells part).kind) (Some part) (around part) inner.0 ∙ handed number place part at)
                (found_owned depth part x inner.1)
          ]

      pub label_of_owner : (number : ℕ) (x : LabelledBlock) → ends (cell_at cells number).kind ≡ true → IsIn x (below number) → IsLabelOf x (Some number)
      label_of_owner number x is there =
          subst (λ owner. IsLabelOf x owner) (cond-true (ends (cell_at cells number).kind) (Some number) (around number) is) (found_owned (suc number) number x there)

      -- a cell that has an owner is a part
      parent_of : (number owner : ℕ) → number < length cells → around number ≡ Some owner → (parent place : ℕ) × HasPart cells parent place number
      parent_of number owner within owned =
          tree.whole number (lower (number + 1) (length cells) (λ last. let root : length cells - 1 ≡ number = omega (arith, last, within) in none-some owner (sym none ∙ ap around root ∙ owned)))
        where
          lower : (one other : ℕ) → (other ≤ one → ⊥) → one < other
          lower one other past =
              elim (cases_lt one other) [
                | inl less ↦ less
                | inr reached ↦ absurd (past reached)
              ]

      -- what is found at a cell goes up to its owner
      goes_up : (left number owner : ℕ) (x : LabelledBlock) → length cells ≤ number + left → number < length cells → around number ≡ Some owner
          → IsIn x (Found below number) → IsIn x (below owner)
      goes_up zero number owner x far within owned there = absurd (omega (arith, far, within))
      goes_up (suc left) number owner x far within owned there =
          let (parent, place, at) = parent_of number owner within owned in
          let up : IsIn x (below parent) =
          subst (λ list. IsIn x list) (sym (below_of parent)) (among_to below (cell_at cells parent).parts place number x at there) in
          elim (cases_Bool (ends (cell_at cells parent).kind)) [
            | inl ended ↦
                subst (λ cell. IsIn x (below cell)) (same_Some parent owner (sym (cond-true (ends (cell_at cells parent).kind) (Some parent) (around parent) ended) ∙ sym (handed parent place number at) ∙ owned)) up
            | inr goes_on ↦
                goes_up left parent owner x (omega (arith, far, tree.each.before parent place number at)) (number_within cells parent place number at)
                (sym (cond-false (ends (cell_at cells parent).kind) (Some parent) (around parent) goes_on) ∙ sym (handed parent place number at) ∙ owned)
                (inner_label below parent x (number_within cells parent place number at) goes_on up)
          ]

      pub owner_has : (label owner : ℕ) → label < length cells → is_sought (cell_at cells label).kind ≡ true → around label ≡ Some owner
          → IsIn ((cell_at cells label).kind, entry label) (below owner)
      owner_has label owner within is owned =
          goes_up (length cells) label owner ((cell_at cells label).kind, entry label) (omega arith) within owned (own_label below label within is)

      -- an owner is one of those that end the search
      pub owner_ends : (left number owner : ℕ) → length cells ≤ number + left → number < length cells → around number ≡ Some owner
          → (ends (cell_at cells owner).kind ≡ true) × (owner < length cells)
      owner_ends zero number owner far within owned = absurd (omega (arith, far, within))
      owner_ends (suc left) number owner far within owned =
          let (parent, place, at) = parent_of number owner within owned in
          elim (cases_Bool (ends (cell_at cells parent).kind)) [
            | inl ended ↦
                subst (λ it. (ends (cell_at cells it).kind ≡ true) × (it < length cells))
                (same_Some parent owner (sym (cond-true (ends (cell_at cells parent).kind) (Some parent) (around parent) ended) ∙ sym (handed parent place number at) ∙ owned))
                (ended, number_within cells parent place number at)
            | inr goes_on ↦
                owner_ends left parent owner (omega (arith, far, tree.each.before parent place number at)) (number_within cells parent place number at)
                (sym (cond-false (ends (cell_at cells parent).kind) (Some parent) (around parent) goes_on) ∙ sym (handed parent place number at) ∙ owned)
          ]
