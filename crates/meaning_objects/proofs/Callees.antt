-- Parentheses are taken away.
use Rattle.std.proofs.Common.{◌≡◌, ℕ, zero, suc, ◌-◌, ◌<◌, ◌≤◌, ◌⊎◌, inl, inr, Bool, true, false, List, [], ◌∷◌, length, map, get_or, slice_get, unwrap_or, All, Some, if◌then◌else◌, refl, sym, ap, subst, ◌∙◌, arith}
use Rattle.std.proofs.lemmas.Option.{slice_get-get_or, slice_get_past, unwrap_or-slice_get}
use Rattle.meaning_tree.specs.Nodes.{ChildrenStandBefore}
use Rattle.meaning_typing.specs.Units.{UnitNodes, no_node, node_at, kind_at, child_at, unit_list}
use Rattle.meaning_objects.specs.Callees.{inside, is_parenthesized, without_parentheses}
use Rattle.meaning_objects.specs.laws.Callees.{ParenthesesAreTakenAway, ParenthesesDontCount}

nat_split : (handle count : ℕ) → (handle < count) ⊎ (count ≤ handle)
nat_split handle count = grind arith

module _ (nodes : UnitNodes) (before : ChildrenStandBefore (unit_list nodes)) where
  past : (handle : ℕ) → length nodes ≤ handle → node_at nodes handle ≡ no_node
  past handle behind = sym (unwrap_or-slice_get nodes handle no_node) ∙ ap (λ found. unwrap_or found no_node) (slice_get_past nodes handle behind)

  -- the first part stands before the node, or there is none
  first_child : (handle : ℕ) → (child_at nodes handle 0 < handle) ⊎ (child_at nodes handle 0 ≡ length nodes)
  first_child handle = by (node_at nodes handle).children refl (nat_split handle (length nodes))
    where
      first : {children : List (ℕ × ℕ)} → (node_at nodes handle).children ≡ children → child_at nodes handle 0 ≡ get_or (map (λ (child : ℕ × ℕ). child.0) children) 0 (length nodes)
      first is = ap (λ children. get_or (map (λ (child : ℕ × ℕ). child.0) children) 0 (length nodes)) is

      no_parts : (child : ℕ × ℕ) (children : List (ℕ × ℕ)) → [] ≡ child ∷ children → ⊥
      no_parts child children is = absurd (cc is)

      by : (children : List (ℕ × ℕ)) → (node_at nodes handle).children ≡ children → (handle < length nodes) ⊎ (length nodes ≤ handle)
          → (child_at nodes handle 0 < handle) ⊎ (child_at nodes handle 0 ≡ length nodes)
      by [] is within = inr (first is)
      by (child ∷ children) is (inl within) =
          let found : slice_get nodes (handle - 0) ≡ Some (node_at nodes handle) =
          ap (slice_get nodes) (omega arith) ∙ slice_get-get_or nodes handle no_node within in
          let less : child.0 < handle =
          (subst (All (λ part. (0 ≤ part.0) × (part.0 < handle))) is (before handle (node_at nodes handle) (omega arith, found)) 0 child (omega arith)).1 in
          inl (subst (λ part. part < handle) (sym (first is)) less)
      by (child ∷ children) is (inr behind) = absurd (no_parts child children (sym (ap (λ node. node.children) (past handle behind)) ∙ is))

  stays : (most handle : ℕ) → is_parenthesized (kind_at nodes handle) ≡ false → inside nodes most handle ≡ handle
  stays zero handle is = refl
  stays (suc most) handle is = ap (λ test. if test then inside nodes most (child_at nodes handle 0) else handle) is

  no_end : is_parenthesized (kind_at nodes (length nodes)) ≡ false
  no_end = ap (λ node. is_parenthesized node.kind) (past (length nodes) (omega arith))

  ends : (most handle : ℕ) → handle < most → is_parenthesized (kind_at nodes (inside nodes most handle)) ≡ false
  ends zero handle within = absurd (omega (arith, within))
  ends (suc most) handle within = by (is_parenthesized (kind_at nodes handle)) refl (first_child handle) (ends most (child_at nodes handle 0))
    where
      one : (test : Bool) → is_parenthesized (kind_at nodes handle) ≡ test → inside nodes (suc most) handle ≡ (if test then inside nodes most (child_at nodes handle 0) else handle)
      one test is = ap (λ test. if test then inside nodes most (child_at nodes handle 0) else handle) is

      by : (test : Bool) → is_parenthesized (kind_at nodes handle) ≡ test → (child_at nodes handle 0 < handle) ⊎ (child_at nodes handle 0 ≡ length nodes)
          → (child_at nodes handle 0 < most → is_parenthesized (kind_at nodes (inside nodes most (child_at nodes handle 0))) ≡ false)
          → is_parenthesized (kind_at nodes (inside nodes (suc most) handle)) ≡ false
      by false is child later = ap (λ found. is_parenthesized (kind_at nodes found)) (one false is) ∙ is
      by true is (inl less) later = ap (λ found. is_parenthesized (kind_at nodes found)) (one true is) ∙ later (omega (arith, less, within))
      by true is (inr end) later =
          ap (λ found. is_parenthesized (kind_at nodes found)) (one true is ∙ ap (inside nodes most) end ∙ stays most (length nodes) no_end) ∙ no_end

  enough : (most more handle : ℕ) → handle < most → handle < more → inside nodes most handle ≡ inside nodes more handle
  enough zero more handle within within_more = absurd (omega (arith, within))
  enough (suc most) zero handle within within_more = absurd (omega (arith, within_more))
  enough (suc most) (suc more) handle within within_more =
      by (is_parenthesized (kind_at nodes handle)) (first_child handle) (enough most more (child_at nodes handle 0))
    where
      by : (test : Bool) → (child_at nodes handle 0 < handle) ⊎ (child_at nodes handle 0 ≡ length nodes)
          → (child_at nodes handle 0 < most → child_at nodes handle 0 < more → inside nodes most (child_at nodes handle 0) ≡ inside nodes more (child_at nodes handle 0))
          → (if test then inside nodes most (child_at nodes handle 0) else handle) ≡ (if test then inside nodes more (child_at nodes handle 0) else handle)
      by false child later = refl
      by true (inl less) later = later (omega (arith, less, within)) (omega (arith, less, within_more))
      by true (inr end) later = ap (inside nodes most) end ∙ stays most (length nodes) no_end ∙ sym (ap (inside nodes more) end ∙ stays more (length nodes) no_end)

  same : (handle : ℕ) → is_parenthesized (kind_at nodes handle) ≡ true → without_parentheses nodes handle ≡ without_parentheses nodes (child_at nodes handle 0)
  same handle is =
      ap (λ test. if test then inside nodes handle (child_at nodes handle 0) else handle) is
      ∙ elim (first_child handle) [
        | inl less ↦ enough handle (suc (child_at nodes handle 0)) (child_at nodes handle 0) less (omega arith)
        | inr end ↦
            ap (inside nodes handle) end ∙ stays handle (length nodes) no_end
            ∙ sym (ap (without_parentheses nodes) end ∙ stays (suc (length nodes)) (length nodes) no_end)
      ]

pub parentheses_are_taken_away : ParenthesesAreTakenAway
parentheses_are_taken_away nodes handle before = ends nodes before (suc handle) handle (omega arith)

pub parentheses_dont_count : ParenthesesDontCount
parentheses_dont_count nodes handle before is = same nodes before handle is
