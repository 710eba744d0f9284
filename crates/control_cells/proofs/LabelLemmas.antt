-- One more cell, whose label may join a list.
use Rattle.std.proofs.Common.{◌≡◌, ◌⊎◌, inl, inr, ℕ, ◌+◌, ◌<◌, List, [], ◌∷◌, ◌++◌, Some, None, length, sym, ap, subst, ◌∙◌, arith, length-set}
use Rattle.std.proofs.lemmas.Option.{none-some, same_Some}
use Rattle.meaning_paths.specs.Walks.{IsIn}
use Rattle.meaning_control.specs.laws.Cells.{Cell}
use Rattle.control_cells.specs.Labels.{AreOwned, owner_at, row_at, with_pushed}
use Rattle.control_cells.specs.declared.exits.Exits.{Exits}
use Rattle.control_cells.proofs.ListLemmas.{AreEmpty, row_pushed_from, row_pushed_to}

pub last_or_before : (number count : ℕ) → number < count + 1 → (number ≡ count) ⊎ (number < count)
last_or_before number count within = grind arith

pub none_owned : (cells : List Cell) (exits : List Exits) (lists : List (List ℕ)) → AreEmpty (length cells) lists → AreOwned cells exits 0 lists
none_owned cells exits lists empty =
    record {
      length_is = empty.length_is;
      each = λ place label within. (
        (λ there. absurd (subst (λ row. IsIn label row) (empty.none place) there)),
        (λ owned. absurd (omega (arith, owned.0))),
      );
    }

module _ (cells : List Cell) (exits : List Exits) (count : ℕ) (lists : List (List ℕ)) (are : AreOwned cells exits count lists) where
  -- it is no label, or nobody's
  pub none_joins : owner_at cells exits count ≡ None → AreOwned cells exits (count + 1) lists
  none_joins none =
      record {
        length_is = are.length_is;
        each = λ place label within. (
          (λ there. let (before, owned) = (are.each place label within).0 there in (omega (arith, before), owned)),
          (λ owned.
              elim (last_or_before label count owned.0) [
                | inl last ↦ absurd (none-some place (sym none ∙ ap (owner_at cells exits) (sym last) ∙ owned.1))
                | inr before ↦ (are.each place label within).1 (before, owned.1)
              ]),
        );
      }

  pub one_joins : (owner : ℕ) → owner_at cells exits count ≡ Some owner → AreOwned cells exits (count + 1) (with_pushed lists owner count)
  one_joins owner is =
      record {
        length_is = length-set lists owner (row_at lists owner ++ count ∷ []) ∙ are.length_is;
        each = λ place label within. (
          (λ there. from place label within (row_pushed_from lists owner count place (omega (arith, within, are.length_is)) label there)),
          (λ owned.
              row_pushed_to lists owner count place (omega (arith, within, are.length_is)) label
              (elim (last_or_before label count owned.0) [
                | inl last ↦ inr (last, sym (same_Some owner place (sym is ∙ ap (owner_at cells exits) (sym last) ∙ owned.1)))
                | inr before ↦ inl ((are.each place label within).1 (before, owned.1))
              ])),
        );
      }
    where
      from : (place label : ℕ) → place < length cells → IsIn label (row_at lists place) ⊎ ((label ≡ count) × (place ≡ owner))
          → (label < count + 1) × (owner_at cells exits label ≡ Some place)
      from place label within (inl there) = let (before, owned) = (are.each place label within).0 there in (omega (arith, before), owned)
      from place label within (inr (last, same)) = (omega (arith, last), ap (owner_at cells exits) last ∙ is ∙ ap (λ k. Some k) (sym same))
