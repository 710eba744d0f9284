-- The initializer behind a declarator, child by child, and what is declared behind it.
use Rattle.std.proofs.Common.{◌≡◌, ℕ, suc, ◌+◌, ◌<◌, ◌≤◌, Bool, true, false, List, ◌∷◌, Some, length, drop, min, inl, inr, slice_get, get_or, if◌then◌else◌, refl, sym, ap, ◌∙◌, subst, arith}
use Rattle.std.proofs.Math.Seq.{drop-cons}
use Rattle.std.proofs.lemmas.Bool.{cases_lt}
use Rattle.std.proofs.lemmas.List.{drop_all, get_or-map, length-map}
use Rattle.std.proofs.lemmas.Option.{get_or_from_slice_get, slice_get_within}
use Rattle.vocabulary.specs.declared.node_kind.NodeKind.{NodeKind}
use Rattle.vocabulary.specs.declared.node_kind.NodeKind.TheVariants as kinds
use Rattle.meaning_typing.specs.Facts.{Fact, Declared, DeclaredFact}
use Rattle.meaning_typing.specs.Names.{completed_by, completed_if, declared_with, first_initializer, initializer_by_kind}
use Rattle.meaning_typing.specs.MemberRows.{is_unbounded}
use Rattle.meaning_typing.specs.Units.{UnitNodes, kind_at}
use Rattle.decl_judge.specs.Seen.{is_list}
use Rattle.decl_judge.specs.Units.{handles_of}
use Rattle.declaration_rows.specs.Completed.{first_from, initializer_or}

over_list : (kind : NodeKind) (handle behind otherwise : ℕ) → is_list kind ≡ true → initializer_by_kind kind handle behind otherwise ≡ behind
over_list kinds.AttributeList handle behind otherwise is = refl
over_list kind handle behind otherwise is = cc

over_other : (kind : NodeKind) (handle behind otherwise : ℕ) → is_list kind ≡ false
    → initializer_by_kind kind handle behind otherwise ≡ initializer_or kind handle otherwise
over_other kinds.AttributeList handle behind otherwise is = cc
over_other kinds.Initializer handle behind otherwise is = refl
over_other kind handle behind otherwise is = refl

module _ (nodes : UnitNodes) (otherwise : ℕ) (children : List (ℕ × ℕ)) (place : ℕ) where
  from_entry : (entry : ℕ × ℕ) → slice_get children place ≡ Some entry
      → first_from nodes otherwise children place
      ≡ initializer_by_kind (kind_at nodes entry.0) entry.0 (first_from nodes otherwise children (place + 1)) otherwise
  from_entry entry found =
      let within : place < length children = slice_get_within children place entry found in
      let handle : get_or (handles_of children) place 0 ≡ entry.0 =
      get_or-map (λ child. child.0) children place entry 0 within
      ∙ ap (λ child. child.0) (get_or_from_slice_get children place entry entry found) in
      ap (first_initializer nodes otherwise)
      (drop-cons (handles_of children) place 0 (subst (λ count. place < count) (sym (length-map children (λ child. child.0))) within))
      ∙ ap (λ first. first_initializer nodes otherwise (first ∷ drop (suc place) (handles_of children))) handle
      ∙ ap (λ next. initializer_by_kind (kind_at nodes entry.0) entry.0 (first_from nodes otherwise children next) otherwise) next_place
    where
      next_place : suc place ≡ place + 1
      next_place = omega arith

  pub first_list : (entry : ℕ × ℕ) → slice_get children place ≡ Some entry → is_list (kind_at nodes entry.0) ≡ true
      → first_from nodes otherwise children place ≡ first_from nodes otherwise children (place + 1)
  first_list entry found is =
      from_entry entry found ∙ over_list (kind_at nodes entry.0) entry.0 (first_from nodes otherwise children (place + 1)) otherwise is

  pub first_other : (entry : ℕ × ℕ) → slice_get children place ≡ Some entry → is_list (kind_at nodes entry.0) ≡ false
      → first_from nodes otherwise children place ≡ initializer_or (kind_at nodes entry.0) entry.0 otherwise
  first_other entry found is =
      from_entry entry found ∙ over_other (kind_at nodes entry.0) entry.0 (first_from nodes otherwise children (place + 1)) otherwise is

  pub first_end : length children ≤ place → first_from nodes otherwise children place ≡ otherwise
  first_end past =
      ap (first_initializer nodes otherwise)
      (drop_all place (handles_of children) (subst (λ count. count ≤ place) (sym (length-map children (λ child. child.0))) past))

-- a list has fewer places than there are numbers of 32 bits
pub first_capped : (nodes : UnitNodes) (otherwise : ℕ) (children : List (ℕ × ℕ)) (next place : ℕ) → length children ≤ 1073741824 → next ≡ min place 4294967295
    → first_from nodes otherwise children next ≡ first_from nodes otherwise children place
first_capped nodes otherwise children next place few is = elim (cases_lt place 4294967295) [
  | inl near ↦ ap (first_from nodes otherwise children) (same near)
  | inr far ↦ first_end nodes otherwise children next (omega arith) ∙ sym (first_end nodes otherwise children place (omega arith))
]
  where
    same : place < 4294967295 → next ≡ place
    same near = omega arith

-- What is declared

pub bounded_stays : (declaration : DeclaredFact) (fact initializer : Fact) → fact ≡ Declared declaration → is_unbounded declaration.type_ ≡ false
    → Declared declaration ≡ declared_with fact initializer
bounded_stays declaration fact initializer is bounded =
    ap (λ test. completed_if test declaration initializer) (sym bounded) ∙ ap (λ one. declared_with one initializer) (sym is)

pub unbounded_completes : (declaration : DeclaredFact) (fact initializer : Fact) → fact ≡ Declared declaration → is_unbounded declaration.type_ ≡ true
    → completed_by declaration initializer ≡ declared_with fact initializer
unbounded_completes declaration fact initializer is unbounded =
    ap (λ test. completed_if test declaration initializer) (sym unbounded) ∙ ap (λ one. declared_with one initializer) (sym is)
