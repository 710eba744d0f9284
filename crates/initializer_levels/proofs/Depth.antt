-- The parts of a node stand before it, so none is deeper than its handle says.
use Rattle.std.proofs.Common.{◌≡◌, ◌⊎◌, ℕ, zero, suc, ◌<◌, ◌≤◌, false, List, [], ◌∷◌, map, length, All, Option, Some, None, get_or, slice_get, unwrap_or, refl, sym, ap, subst, ◌∙◌, inl, inr, ⊎_elim, arith}
use Rattle.std.proofs.lemmas.List.Elements.{All-get_or, All-head, All-map, All-tail}
use Rattle.std.proofs.lemmas.Option.{get_or_from_slice_get, slice_get_cases, slice_get_past, unwrap_or-slice_get}
use Rattle.vocabulary.specs.declared.node_kind.NodeKind.{NodeKind}
use Rattle.vocabulary.specs.declared.node_kind.NodeKind.TheVariants as kinds
use Rattle.meaning_tree.specs.Nodes.{TreeNode, ChildrenStandBefore}
use Rattle.meaning_typing.specs.Facts.{Fact}
use Rattle.meaning_typing.specs.Units.{UnitNodes, no_node, node_at, kind_at, children_at, child_at, unit_list}
use Rattle.meaning_initializers.specs.Items.{Initializer, Value, Braces, Item}
use Rattle.meaning_initializers.specs.Reading.{given_at, designators_of, parts_before_last, items_of, initializer_by, initializer_within, initializer_at}
use Rattle.initializer_levels.specs.Laws.{InitializersAreOfParts}

module _ (nodes : UnitNodes) (facts : List Fact) where
  -- the last part of an item
  abbrev last_of : ℕ → ℕ
  last_of item = child_at nodes item (parts_before_last nodes item)

  items_same : (one other : ℕ → Initializer) (items : List ℕ) → All (λ item. one (last_of item) ≡ other (last_of item)) items
      → items_of nodes facts one items ≡ items_of nodes facts other items
  items_same one other [] same = refl
  items_same one other (item ∷ items) same =
      let behind = items_same one other items (All-tail (λ i. one (last_of i) ≡ other (last_of i)) item items same) in
      ap (λ (i : Initializer). Item (designators_of nodes facts item) false i (items_of nodes facts one items))
      (All-head (λ i. one (last_of i) ≡ other (last_of i)) item items same)
      ∙ ap (Item (designators_of nodes facts item) false (other (last_of item))) behind

  by_same : (one other : ℕ → Initializer) (handle : ℕ) (kind : NodeKind) → All (λ item. one (last_of item) ≡ other (last_of item)) (children_at nodes handle)
      → initializer_by nodes facts one handle kind ≡ initializer_by nodes facts other handle kind
  by_same one other handle kinds.BracedInitializer same = ap (Braces handle (node_at nodes handle).token) (items_same one other (children_at nodes handle) same)
  by_same one other handle kind same = refl

  -- no node
  outside_node : (handle : ℕ) → length nodes ≤ handle → node_at nodes handle ≡ no_node
  outside_node handle past = sym (unwrap_or-slice_get nodes handle no_node) ∙ ap (λ (node : Option (TreeNode (List ℕ))). unwrap_or node no_node) (slice_get_past nodes handle past)

  outside : (depth handle : ℕ) → length nodes ≤ handle → initializer_within nodes facts depth handle ≡ Value (given_at nodes facts handle)
  outside zero handle past = refl
  outside (suc depth) handle past =
      ap (λ (node : TreeNode (List ℕ)). initializer_by nodes facts (initializer_within nodes facts depth) handle node.kind) (outside_node handle past)

  module _ (order : ChildrenStandBefore (unit_list nodes)) where
    -- a child stands before its parent, or isn't there
    abbrev Before : ℕ → TreeNode (List ℕ) → Type 0
    Before handle node = All (λ child. child < handle) (map (λ child. child.0) node.children)

    children_before : (handle : ℕ) → Before handle (node_at nodes handle)
    children_before handle =
        ⊎_elim
        (λ (found : (node : TreeNode (List ℕ)) × (handle < length nodes) × (slice_get nodes handle ≡ Some node) × (get_or nodes handle node ≡ node)).
        subst (Before handle) (sym (get_or_from_slice_get nodes handle found.0 no_node found.2))
        (All-map (λ (child : ℕ). child < handle) (λ (child : ℕ × ℕ). child.0) found.0.children (λ i e within. (order handle found.0 (omega arith, ap (slice_get nodes) (omega arith) ∙ found.2) i e within).1)))
        (λ (past : (length nodes ≤ handle) × (slice_get nodes handle ≡ None)).
        subst (Before handle) (sym (outside_node handle past.0)) (λ i e within. absurd (omega (arith, within))))
        (slice_get_cases nodes handle).1

    child_before : (handle place : ℕ) → (child_at nodes handle place < handle) ⊎ (length nodes ≤ child_at nodes handle place)
    child_before handle place =
        ⊎_elim
        (λ (found : (child : ℕ) × (place < length (children_at nodes handle)) × (slice_get (children_at nodes handle) place ≡ Some child)
        × (get_or (children_at nodes handle) place child ≡ child)).
        inl (All-get_or (λ (child : ℕ). child < handle) (children_at nodes handle) place (length nodes) found.1 (children_before handle)))
        (λ (past : (length (children_at nodes handle) ≤ place) × (slice_get (children_at nodes handle) place ≡ None)).
        let none = sym (unwrap_or-slice_get (children_at nodes handle) place (length nodes)) ∙ ap (λ (child : Option ℕ). unwrap_or child (length nodes)) past.1 in
        inr (omega (arith, none)))
        (slice_get_cases (children_at nodes handle) place).1

    -- where it is so of all handles before an item, it is so of the item's last part
    last_within : (depth other item : ℕ)
        → ((handle : ℕ) → handle < item → initializer_within nodes facts depth handle ≡ initializer_within nodes facts other handle)
        → initializer_within nodes facts depth (last_of item) ≡ initializer_within nodes facts other (last_of item)
    last_within depth other item same =
        ⊎_elim
        (λ (before : last_of item < item). same (last_of item) before)
        (λ (past : length nodes ≤ last_of item). outside depth (last_of item) past ∙ sym (outside other (last_of item) past))
        (child_before item (parts_before_last nodes item))

    within_same : (depth other handle : ℕ) → handle < depth → handle < other → initializer_within nodes facts depth handle ≡ initializer_within nodes facts other handle
    within_same zero other handle low below = absurd (omega (arith, low))
    within_same (suc depth) zero handle low below = absurd (omega (arith, below))
    within_same (suc depth) (suc other) handle low below =
        by_same (initializer_within nodes facts depth) (initializer_within nodes facts other) handle (kind_at nodes handle)
        (λ i e within.
        let item = get_or (children_at nodes handle) i e in
        let before = children_before handle i e within in
        last_within depth other item (λ part first. within_same depth other part (omega (arith, low, before, first)) (omega (arith, below, before, first))))

    last_at : (depth item : ℕ) → item < depth → initializer_within nodes facts depth (last_of item) ≡ initializer_at nodes facts (last_of item)
    last_at depth item low =
        ⊎_elim
        (λ (before : last_of item < item). within_same depth (suc (last_of item)) (last_of item) (omega (arith, low, before)) (omega arith))
        (λ (past : length nodes ≤ last_of item). outside depth (last_of item) past ∙ sym (outside (suc (last_of item)) (last_of item) past))
        (child_before item (parts_before_last nodes item))

    of_parts : (handle : ℕ) → initializer_at nodes facts handle ≡ initializer_by nodes facts (initializer_at nodes facts) handle (kind_at nodes handle)
    of_parts handle =
        by_same (initializer_within nodes facts handle) (initializer_at nodes facts) handle (kind_at nodes handle)
        (λ i e within.
        let item = get_or (children_at nodes handle) i e in
        let before = children_before handle i e within in
        last_at handle item before)

pub initializers_are_of_parts : InitializersAreOfParts
initializers_are_of_parts nodes facts order handle = of_parts nodes facts order handle
