-- What attributes add, list by list.
use Rattle.std.proofs.Common.{◌≡◌, ℕ, suc, ◌+◌, ◌<◌, ◌≤◌, true, false, List, [], ◌∷◌, ◌++◌, Some, length, drop, min, inl, inr, slice_get, get_or, refl, sym, ap, ◌∙◌, subst, arith}
use Rattle.std.proofs.Math.Seq.{drop-cons}
use Rattle.std.proofs.lemmas.Bool.{cases_lt}
use Rattle.std.proofs.lemmas.Grind.{flat_map-append}
use Rattle.std.proofs.lemmas.List.{drop_all, get_or-map, length-map}
use Rattle.std.proofs.lemmas.Option.{get_or_from_slice_get, slice_get_within}
use Rattle.vocabulary.specs.declared.node_kind.NodeKind.{NodeKind}
use Rattle.vocabulary.specs.declared.node_kind.NodeKind.TheVariants as kinds
use Rattle.meaning_typing.specs.Declarators.{list_before, lists_in_front}
use Rattle.meaning_typing.specs.Specifiers as meaning
use Rattle.meaning_typing.specs.Units.{UnitNodes, node_at, kind_at, children_at}
use Rattle.decl_judge.specs.Seen.{is_list, list_marks, lists_from, marks_over}
use Rattle.decl_judge.specs.Units.{handles_of}

module _ (nodes : UnitNodes) where
  pub behind_append : (marks : meaning.Marks) (front back : List ℕ)
      → meaning.marks_behind nodes marks (front ++ back) ≡ meaning.marks_behind nodes (meaning.marks_behind nodes marks front) back
  behind_append marks [] back = refl
  behind_append marks (handle ∷ front) back = behind_append (meaning.marked_by (node_at nodes handle) (kind_at nodes handle) marks) front back

  -- one list, and those behind it
  pub over_cons : (marks : meaning.Marks) (handle : ℕ) (handles : List ℕ)
      → marks_over nodes marks (handle ∷ handles) ≡ marks_over nodes (list_marks nodes marks handle) handles
  over_cons marks handle handles = behind_append marks (meaning.attributes_of (kind_at nodes handle) (children_at nodes handle)) (meaning.attributes_among nodes handles)

  pub over_append : (marks : meaning.Marks) (front back : List ℕ)
      → marks_over nodes marks (front ++ back) ≡ marks_over nodes (marks_over nodes marks front) back
  over_append marks front back =
      ap (meaning.marks_behind nodes marks) (flat_map-append (λ handle. meaning.attributes_of (kind_at nodes handle) (children_at nodes handle)) front back)
      ∙ behind_append marks (meaning.attributes_among nodes front) (meaning.attributes_among nodes back)

-- Lists that stand one behind the other

before_list : (kind : NodeKind) (handle : ℕ) (others : List ℕ) → is_list kind ≡ true → list_before kind handle others ≡ handle ∷ others
before_list kinds.AttributeList handle others is = refl
before_list kind handle others is = cc

before_other : (kind : NodeKind) (handle : ℕ) (others : List ℕ) → is_list kind ≡ false → list_before kind handle others ≡ []
before_other kinds.AttributeList handle others is = cc
before_other kind handle others is = refl

module _ (nodes : UnitNodes) (children : List (ℕ × ℕ)) (place : ℕ) where
  from_entry : (entry : ℕ × ℕ) → slice_get children place ≡ Some entry
      → lists_from nodes children place ≡ list_before (kind_at nodes entry.0) entry.0 (lists_from nodes children (place + 1))
  from_entry entry found =
      let within : place < length children = slice_get_within children place entry found in
      let handle : get_or (handles_of children) place 0 ≡ entry.0 =
      get_or-map (λ child. child.0) children place entry 0 within
      ∙ ap (λ child. child.0) (get_or_from_slice_get children place entry entry found) in
      ap (lists_in_front nodes)
      (drop-cons (handles_of children) place 0 (subst (λ count. place < count) (sym (length-map children (λ child. child.0))) within))
      ∙ ap (λ first. lists_in_front nodes (first ∷ drop (suc place) (handles_of children))) handle
      ∙ ap (λ next. list_before (kind_at nodes entry.0) entry.0 (lists_from nodes children next)) next_place
    where
      next_place : suc place ≡ place + 1
      next_place = omega arith

  pub from_list : (entry : ℕ × ℕ) → slice_get children place ≡ Some entry → is_list (kind_at nodes entry.0) ≡ true
      → lists_from nodes children place ≡ entry.0 ∷ lists_from nodes children (place + 1)
  from_list entry found is = from_entry entry found ∙ before_list (kind_at nodes entry.0) entry.0 (lists_from nodes children (place + 1)) is

  pub from_other : (entry : ℕ × ℕ) → slice_get children place ≡ Some entry → is_list (kind_at nodes entry.0) ≡ false
      → lists_from nodes children place ≡ []
  from_other entry found is = from_entry entry found ∙ before_other (kind_at nodes entry.0) entry.0 (lists_from nodes children (place + 1)) is

  pub from_end : length children ≤ place → lists_from nodes children place ≡ []
  from_end past = ap (lists_in_front nodes) (drop_all place (handles_of children) (subst (λ count. count ≤ place) (sym (length-map children (λ child. child.0))) past))

-- a list has fewer places than there are numbers of 32 bits
pub from_capped : (nodes : UnitNodes) (children : List (ℕ × ℕ)) (next place : ℕ) → length children ≤ 1073741824 → next ≡ min place 4294967295
    → lists_from nodes children next ≡ lists_from nodes children place
from_capped nodes children next place few is = elim (cases_lt place 4294967295) [
  | inl near ↦ ap (lists_from nodes children) (same near)
  | inr far ↦ from_end nodes children next (omega arith) ∙ sym (from_end nodes children place (omega arith))
]
  where
    same : place < 4294967295 → next ≡ place
    same near = omega arith
