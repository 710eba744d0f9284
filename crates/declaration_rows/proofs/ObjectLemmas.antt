-- Initializers behind a declarator, and the result of a function that is defined.
use Rattle.std.proofs.Common.{◌≡◌, ℕ, suc, ◌+◌, ◌<◌, ◌≤◌, true, false, List, ◌∷◌, Some, length, drop, min, inl, inr, slice_get, get_or, refl, sym, ap, ◌∙◌, subst, arith}
use Rattle.std.proofs.Math.Seq.{drop-cons}
use Rattle.std.proofs.lemmas.Bool.{cases_lt}
use Rattle.std.proofs.lemmas.List.{drop_all, get_or-map, length-map}
use Rattle.std.proofs.lemmas.Option.{get_or_from_slice_get, slice_get_within}
use Rattle.vocabulary.specs.declared.node_kind.NodeKind.{NodeKind}
use Rattle.vocabulary.specs.declared.node_kind.NodeKind.TheVariants as kinds
use Rattle.meaning_layout.specs.Sizes.{Told}
use Rattle.meaning_types.specs.Types.{TypeTree, Typed, VoidTree, IntegerTree, RestrictedTree, PointerTree, ArrayTree, FunctionTree, AggregateTree}
use Rattle.meaning_typing.specs.DeclarationRows.{begins_with_initializer, defined_result_broken, initializes, is_initializer}
use Rattle.meaning_typing.specs.Statements.{result_in}
use Rattle.meaning_typing.specs.Units.{UnitNodes, kind_at}
use Rattle.decl_judge.specs.Seen.{is_list}
use Rattle.decl_judge.specs.Units.{handles_of}
use Rattle.declaration_rows.specs.Objects.{initializer_from, result_broken}

-- Initializers

over_list : (kind : NodeKind) (otherwise : _) → is_list kind ≡ true → initializes kind otherwise ≡ otherwise
over_list kinds.AttributeList otherwise is = refl
over_list kind otherwise is = cc

over_other : (kind : NodeKind) (otherwise : _) → is_list kind ≡ false → initializes kind otherwise ≡ is_initializer kind
over_other kinds.AttributeList otherwise is = cc
over_other kind otherwise is = refl

module _ (nodes : UnitNodes) (children : List (ℕ × ℕ)) (place : ℕ) where
  from_entry : (entry : ℕ × ℕ) → slice_get children place ≡ Some entry
      → initializer_from nodes children place ≡ initializes (kind_at nodes entry.0) (initializer_from nodes children (place + 1))
  from_entry entry found =
      let within : place < length children = slice_get_within children place entry found in
      let handle : get_or (handles_of children) place 0 ≡ entry.0 =
      get_or-map (λ child. child.0) children place entry 0 within
      ∙ ap (λ child. child.0) (get_or_from_slice_get children place entry entry found) in
      ap (begins_with_initializer nodes)
      (drop-cons (handles_of children) place 0 (subst (λ count. place < count) (sym (length-map children (λ child. child.0))) within))
      ∙ ap (λ first. begins_with_initializer nodes (first ∷ drop (suc place) (handles_of children))) handle
      ∙ ap (λ next. initializes (kind_at nodes entry.0) (initializer_from nodes children next)) next_place
    where
      next_place : suc place ≡ place + 1
      next_place = omega arith

  pub from_list : (entry : ℕ × ℕ) → slice_get children place ≡ Some entry → is_list (kind_at nodes entry.0) ≡ true
      → initializer_from nodes children place ≡ initializer_from nodes children (place + 1)
  from_list entry found is = from_entry entry found ∙ over_list (kind_at nodes entry.0) (initializer_from nodes children (place + 1)) is

  pub from_other : (entry : ℕ × ℕ) → slice_get children place ≡ Some entry → is_list (kind_at nodes entry.0) ≡ false
      → initializer_from nodes children place ≡ is_initializer (kind_at nodes entry.0)
  from_other entry found is = from_entry entry found ∙ over_other (kind_at nodes entry.0) (initializer_from nodes children (place + 1)) is

  pub from_end : length children ≤ place → initializer_from nodes children place ≡ false
  from_end past =
      ap (begins_with_initializer nodes)
      (drop_all place (handles_of children) (subst (λ count. count ≤ place) (sym (length-map children (λ child. child.0))) past))

-- a list has fewer places than there are numbers of 32 bits
pub from_capped : (nodes : UnitNodes) (children : List (ℕ × ℕ)) (next place : ℕ) → length children ≤ 1073741824 → next ≡ min place 4294967295
    → initializer_from nodes children next ≡ initializer_from nodes children place
from_capped nodes children next place few is = elim (cases_lt place 4294967295) [
  | inl near ↦ ap (initializer_from nodes children) (same near)
  | inr far ↦ from_end nodes children next (omega arith) ∙ sym (from_end nodes children place (omega arith))
]
  where
    same : place < 4294967295 → next ≡ place
    same near = omega arith

-- Results

pub result_told : (told : Told) (token : ℕ) (type_ : TypeTree) → result_broken told token (result_in type_) ≡ defined_result_broken told token type_
result_told told token (Typed VoidTree _ _) = refl
result_told told token (Typed (IntegerTree kind) _ _) = refl
result_told told token (Typed (RestrictedTree kind identity) _ _) = refl
result_told told token (Typed (PointerTree target) _ _) = refl
result_told told token (Typed (ArrayTree element length) _ _) = refl
result_told told token (Typed (FunctionTree result parameters variadic) _ _) = refl
result_told told token (Typed (AggregateTree number is_union) _ _) = refl
