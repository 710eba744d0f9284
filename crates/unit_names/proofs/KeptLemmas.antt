-- What is kept of ids stays kept where the new table grows.
use Rattle.std.proofs.Common.{◌≡◌, ℕ, zero, suc, List, [], ◌∷◌, slice_get, slice_set, get_or, Some, ⊎_elim, refl, sym, ap, subst, ◌∙◌, arith, length-set}
use Rattle.std.proofs.lemmas.Bool.{cases_eq}
use Rattle.std.proofs.lemmas.Option.{same_Some, slice_get_within, slice_get-get_or}
use Rattle.sparse_model.specs.declared.ids.NameId.{NameId}
use Rattle.c_tokens.specs.Seen.{Extends, IsKnown, text_of}
use Rattle.c_tokens.specs.Spellings.{with_spelling}
use Rattle.c_tokens.proofs.SeenLemmas.{slice_get-append}
use Rattle.c_tokens.proofs.TableLemmas.{is_among-stands, with_spelling-known}
use Rattle.unit_names.specs.Numbering.{AreKept}

-- a spelling that stands in the table leaves it as it is
pub same_table : (table : List (List ℕ)) (text : List ℕ) (place : ℕ) → slice_get table place ≡ Some text → table ≡ with_spelling table text
same_table table text place stands = sym (with_spelling-known table text (is_among-stands text table place stands))

set_here : {X : Type 0} (xs : List X) (place : ℕ) (x y : X) → slice_get (slice_set xs place x) place ≡ Some y → x ≡ y
set_here [] place x y is = absurd (cc is)
set_here (first ∷ xs) zero x y is = same_Some x y is
set_here (first ∷ xs) (suc place) x y is = set_here xs place x y is

set_elsewhere : {X : Type 0} (xs : List X) (place other : ℕ) (x : X) → (place ≡ other → ⊥) → slice_get (slice_set xs place x) other ≡ slice_get xs other
set_elsewhere [] place other x apart = refl
set_elsewhere (first ∷ xs) zero zero x apart = absurd (apart refl)
set_elsewhere (first ∷ xs) zero (suc other) x apart = refl
set_elsewhere (first ∷ xs) (suc place) zero x apart = refl
set_elsewhere (first ∷ xs) (suc place) (suc other) x apart = set_elsewhere xs place other x (λ same. apart (ap suc same))

-- one id more is kept
pub kept-set : (names table later : List (List ℕ)) (ids : List NameId) (id new : NameId) → AreKept names table ids → Extends table later
    → slice_get later new.0 ≡ Some (text_of names id) → AreKept names later (slice_set ids id.0 new)
kept-set names table later ids id new kept extends stands = record {
  all = length-set ids id.0 new ∙ kept.all;
  each = λ old found is some.
      ⊎_elim
      (λ same. here old found (subst (λ (place : ℕ). slice_get (slice_set ids id.0 new) place ≡ Some found) (sym same) is) same)
      (λ apart. there old found (sym (set_elsewhere ids id.0 old.0 new apart) ∙ is) some)
      (cases_eq id.0 old.0);
}
  where
    here : (old found : NameId) → slice_get (slice_set ids id.0 new) id.0 ≡ Some found → id.0 ≡ old.0 → slice_get later found.0 ≡ Some (text_of names old)
    here old found is same =
        ap (λ (one : NameId). slice_get later one.0) (sym (set_here ids id.0 new found is)) ∙ stands
        ∙ ap (λ (place : ℕ). Some (text_of names (record { 0 = place }))) same

    there : (old found : NameId) → slice_get ids old.0 ≡ Some found → (found.0 ≡ 0 → ⊥) → slice_get later found.0 ≡ Some (text_of names old)
    there old found is some =
        let known = kept.each old found is some in
        ap (λ (names : List (List ℕ)). slice_get names found.0) extends.1
        ∙ slice_get-append table extends.0 found.0 (slice_get_within table found.0 (text_of names old) known) ∙ known

-- what is kept of a known id, and isn't 0, stands for its spelling
pub kept-stands : (names table : List (List ℕ)) (ids : List NameId) (id new : NameId) → AreKept names table ids → IsKnown names id → new ≡ get_or ids id.0 new
    → (new.0 ≡ 0 → ⊥) → slice_get table new.0 ≡ Some (text_of names id)
kept-stands names table ids id new kept known is some =
    kept.each id new (slice_get-get_or ids id.0 new (omega (arith, known, kept.all)) ∙ ap Some (sym is)) some
