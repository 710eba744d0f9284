-- What is kept of the nodes above, a node at a time from the last one on.
use Rattle.std.proofs.Common.{◌≡◌, ℕ, ◌+◌, ◌<◌, ◌≤◌, ◌⊎◌, inl, inr, Bool, true, false, nat_lt, List, [], ◌∷◌, Some, length, get_or, replicate, slice_get, unwrap_or, refl, sym, ap, ◌∙◌, arith, length-set, if◌then◌else◌}
use Rattle.std.specs.Prelude.{slice_set}
use Rattle.std.proofs.lemmas.List.{length-replicate}
use Rattle.std.proofs.lemmas.Option.{get_or_from_slice_get, slice_get_past, unwrap_or-slice_get}
use Rattle.meaning_typing.specs.Units.{UnitNodes}
use Rattle.meaning_typing.specs.Surroundings.{Surrounding, surrounding_at}
use Rattle.meaning_statements.specs.Above.{Above, expressions_among, innermost, is_statement_expression, node_above, nodes_above, outermost}
use Rattle.node_surroundings.proofs.ListLemmas.{slice_get-set_other, slice_get-set_same}
use Rattle.statement_judge.specs.declared.enclosing.Enclosing.{Enclosing}
use Rattle.statement_judge.specs.Enclosing.{enclosing_at, enclosing_by, enclosing_next, enclosing_under, nothing_above, outer_or}
use Rattle.statement_judge.proofs.AboveLemmas.{above-next, above-past, less-by}

-- One more node above

innermost-next : (handle : ℕ) (others : List ℕ) (test : Bool)
    → innermost (if test then handle ∷ others else others) ≡ (if test then Some handle else innermost others)
innermost-next handle others true = refl
innermost-next handle others false = refl

outermost-behind : (handle : ℕ) (others : List ℕ) → outermost (handle ∷ others) ≡ Some (outer_or (outermost others) handle)
outermost-behind handle [] = refl
outermost-behind handle (other ∷ []) = refl
outermost-behind handle (other ∷ another ∷ others) = outermost-behind other (another ∷ others) ∙ sym (ap (λ found. Some (outer_or found handle)) (outermost-behind other (another ∷ others)))

outermost-next : (handle : ℕ) (others : List ℕ) (test : Bool)
    → outermost (if test then handle ∷ others else others) ≡ (if test then Some (outer_or (outermost others) handle) else outermost others)
outermost-next handle others true = outermost-behind handle others
outermost-next handle others false = refl

enclosing-under : (above : Above) (others : List Above) → enclosing_by (above ∷ others) ≡ enclosing_under above (enclosing_by others)
enclosing-under above others =
    λ i. record (enclosing_under above (enclosing_by others)) {
      innermost = innermost-next above.handle (expressions_among others) (is_statement_expression above.kind) i;
      outermost = outermost-next above.handle (expressions_among others) (is_statement_expression above.kind) i;
    }

enclosing-if : (above : Above) (others : List Above) (test : Bool) (kept : Enclosing) → (test ≡ true → kept ≡ enclosing_by others)
    → (if test then enclosing_under above kept else nothing_above) ≡ enclosing_by (if test then above ∷ others else [])
enclosing-if above others true kept is = ap (enclosing_under above) (is refl) ∙ sym (enclosing-under above others)
enclosing-if above others false kept is = refl

-- From the last node to the first

-- it is kept of the nodes from this one on
abbrev pub AreFrom : UnitNodes → List Surrounding → (first : ℕ) → List Enclosing → Type 0
AreFrom nodes surroundings first kept = (handle : ℕ) → first ≤ handle → get_or kept handle nothing_above ≡ enclosing_at nodes surroundings handle

get_or-same : (kept later : List Enclosing) (handle : ℕ) → slice_get kept handle ≡ slice_get later handle
    → get_or kept handle nothing_above ≡ get_or later handle nothing_above
get_or-same kept later handle same =
    sym (unwrap_or-slice_get kept handle nothing_above) ∙ ap (λ found. unwrap_or found nothing_above) same
    ∙ unwrap_or-slice_get later handle nothing_above

-- nothing is above nodes that aren't there
pub none_from : (nodes : UnitNodes) (surroundings : List Surrounding) (count : ℕ) (kept : List Enclosing) → count ≡ length nodes
    → kept ≡ replicate count nothing_above → AreFrom nodes surroundings count kept
none_from nodes surroundings count kept whole is handle past =
    sym (unwrap_or-slice_get kept handle nothing_above)
    ∙ ap (λ found. unwrap_or found nothing_above) (slice_get_past kept handle (omega (arith, past, ap length is, length-replicate count nothing_above)))
    ∙ sym (ap enclosing_by (above-past nodes surroundings handle (omega (arith, past, whole))))

next_is : (nodes : UnitNodes) (surroundings : List Surrounding) (handle : ℕ) (kept : List Enclosing) → length surroundings ≡ length nodes
    → handle < length nodes → AreFrom nodes surroundings (handle + 1) kept
    → enclosing_next nodes (surrounding_at surroundings handle) handle kept ≡ enclosing_at nodes surroundings handle
next_is nodes surroundings handle kept all within are =
    let parent = (surrounding_at surroundings handle).parent in
    enclosing-if (node_above nodes (surrounding_at surroundings handle)) (nodes_above nodes surroundings parent) (nat_lt handle parent)
    (get_or kept parent nothing_above) (λ is. are parent (omega (arith, less-by handle parent is)))
    ∙ sym (ap enclosing_by (above-next nodes surroundings handle all within))

this_or_later : (handle other : ℕ) → handle ≤ other → (handle ≡ other) ⊎ (handle + 1 ≤ other)
this_or_later handle other behind = grind arith

differs : (handle other : ℕ) → handle + 1 ≤ other → handle ≡ other → ⊥
differs handle other later same = omega (arith, later, same)

-- one node more
pub one_more_from :
    (nodes : UnitNodes) (surroundings : List Surrounding) (handle : ℕ) (kept later : List Enclosing) → length surroundings ≡ length nodes
    → length kept ≡ length nodes → handle < length nodes
    → later ≡ slice_set kept handle (enclosing_next nodes (surrounding_at surroundings handle) handle kept)
    → AreFrom nodes surroundings (handle + 1) kept → AreFrom nodes surroundings handle later
one_more_from nodes surroundings handle kept later all long within set are other behind =
    let next = enclosing_next nodes (surrounding_at surroundings handle) handle kept in
    elim (this_or_later handle other behind) [
      | inl this ↦
          get_or_from_slice_get later other next nothing_above
          (ap (slice_get later) (sym this) ∙ ap (λ list. slice_get list handle) set ∙ slice_get-set_same kept handle next (omega (arith, long, within)))
          ∙ next_is nodes surroundings handle kept all within are ∙ ap (enclosing_at nodes surroundings) this
      | inr behind ↦
          get_or-same later kept other (ap (λ list. slice_get list other) set ∙ slice_get-set_other kept handle other next (differs handle other behind))
          ∙ are other behind
    ]
