-- The nodes of a unit under any names: each is a part once, as in the unit.
use Rattle.std.proofs.Common.{◌≡◌, ℕ, zero, suc, ◌+◌, ◌-◌, ◌<◌, ◌≤◌, if◌then◌else◌, Bool, true, false, nat_lt, List, [], ◌∷◌, Option, Some, None, map, length, slice_get, get_or, refl, sym, ap, subst, ◌∙◌, arith}
use Rattle.std.specs.Option.{option_and_then, option_map}
use Rattle.std.proofs.lemmas.Bool.{le-ltb}
use Rattle.std.proofs.lemmas.List.{length-map}
use Rattle.std.proofs.lemmas.List.Elements.{All-get_or}
use Rattle.std.proofs.lemmas.Option.{option_and_then_some, slice_get-map, slice_get_within, get_or_from_slice_get}
use Rattle.sparse_model.specs.declared.ids.NameId.{NameId}
use Rattle.meaning_tree.specs.Nodes.{TreeNode, NodeList, HasNode, ChildrenStandBefore}
use Rattle.meaning_tree.specs.Listed.{renamed_node}
use Rattle.meaning_tree.specs.LookUps.{child_at, node_at as found_at}
use Rattle.meaning_tree.specs.Laid.{IsChildAt, IsLaid}
use Rattle.meaning_typing.specs.Units.{no_node, node_at}
use Rattle.meaning_typing.specs.Surroundings.{Surrounding, surrounding_at}
use Rattle.node_surroundings.specs.Seen.{named_nodes}
use Rattle.node_surroundings.specs.Parts.{with_parts}
use Rattle.node_surroundings.proofs.PassLemmas.{HasChild, EachIsPartOnce, AreAsked, parent_within, one_more_asked}

-- by a test
found-by : (before : Bool) (one other : Option (TreeNode NameId)) → before ≡ false → one ≡ other → (if before then None else one) ≡ other
found-by true one other is same = absurd (cc is)
found-by false one other is same = same

-- as many nodes as there are
pub length-named : (names : NameId → List ℕ) (unit : NodeList NameId) → length (named_nodes names unit) ≡ length unit.nodes
length-named names unit = length-map unit.nodes (renamed_node names)

module _ (names : NameId → List ℕ) where
  -- names are nothing to children
  children-named :
      (nodes : List (TreeNode NameId)) (parent place : ℕ)
      → slice_get (get_or (map (renamed_node names) nodes) parent no_node).children place
      ≡ option_and_then (λ node. slice_get node.children place) (slice_get nodes parent)
  children-named [] parent place = refl
  children-named (node ∷ nodes) zero place = refl
  children-named (node ∷ nodes) (suc parent) place = children-named nodes parent place

  module _ (unit : NodeList NameId) (whole : unit.first ≡ 0) where
    found-is : (handle : ℕ) → found_at unit handle ≡ slice_get unit.nodes handle
    found-is handle =
        found-by (nat_lt handle unit.first) _ _ (le-ltb handle unit.first (omega (arith, whole))) (ap (slice_get unit.nodes) (omega (arith, whole)))

    child-is : (parent place : ℕ) → child_at unit parent place ≡ slice_get (node_at (named_nodes names unit) parent).children place
    child-is parent place =
        ap (option_and_then (λ (node : TreeNode NameId). slice_get node.children place)) (found-is parent)
        ∙ sym (children-named unit.nodes parent place)

    child-at : (parent place : ℕ) (child : ℕ × ℕ) → HasChild (named_nodes names unit) parent place child → IsChildAt unit parent place child.0
    child-at parent place child has = (child.1, child-is parent place ∙ has)

    child_before : ChildrenStandBefore unit → (parent place : ℕ) (child : ℕ × ℕ) → HasChild (named_nodes names unit) parent place child → child.0 < parent
    child_before order parent place child has =
        option_and_then_some (λ (node : TreeNode NameId). slice_get node.children place) (found_at unit parent) child (child-is parent place ∙ has)
        (λ node found at.
        let one : HasNode unit parent node = (omega (arith, whole), ap (slice_get unit.nodes) (omega (arith, whole)) ∙ sym (found-is parent) ∙ found) in
        (subst (λ (c : ℕ × ℕ). (unit.first ≤ c.0) × (c.0 < parent)) (get_or_from_slice_get node.children place child child at)
        (All-get_or (λ (c : ℕ × ℕ). (unit.first ≤ c.0) × (c.0 < parent)) node.children place child
        (slice_get_within node.children place child at) (order parent node one))).1)

    -- where the unit is laid, each node is a part once
    pub each_is_part_once : IsLaid unit → ChildrenStandBefore unit → EachIsPartOnce (named_nodes names unit)
    each_is_part_once laid order = record {
      before = child_before order;
      once = λ parent place other elsewhere child part has too same.
          let above = child_before order parent place child has in
          let inside = parent_within (named_nodes names unit) parent place child has in
          let one = laid.parents child.0 (omega (arith, whole)) (omega (arith, above, inside, length-named names unit, whole)) in
          let this = one.3 parent place (child-at parent place child has) in
          let that = one.3 other elsewhere (part.1, child-is other elsewhere ∙ too ∙ ap (λ (handle : ℕ). Some (handle, part.1)) (sym same)) in
          (this.0 ∙ sym that.0, this.1 ∙ sym that.1);
    }

    -- a node of the unit under these names
    pub node_at-named : (handle : ℕ) (node : TreeNode NameId) → HasNode unit handle node → node_at (named_nodes names unit) handle ≡ renamed_node names node
    node_at-named handle node has =
        get_or_from_slice_get (named_nodes names unit) handle (renamed_node names node) no_node
        (slice_get-map (renamed_node names) unit.nodes handle
        ∙ ap (option_map (renamed_node names)) (ap (slice_get unit.nodes) (omega (arith, whole)) ∙ has.1))

    -- one more node has told its parts
    pub next_asked :
        IsLaid unit → ChildrenStandBefore unit → (surroundings later : List Surrounding) (first : ℕ) (node : TreeNode NameId) → 0 < first
        → HasNode unit (first - 1) node
        → later ≡ with_parts node.kind (first - 1) (surrounding_at surroundings (first - 1)) 0 node.children surroundings
        → AreAsked (named_nodes names unit) first surroundings → AreAsked (named_nodes names unit) (first - 1) later
    next_asked laid order surroundings later first node some has told are =
        let within : first - 1 < length (named_nodes names unit) =
        omega (arith, slice_get_within unit.nodes (first - 1 - unit.first) node has.1, length-named names unit, whole) in
        let next : first ≡ first - 1 + 1 = omega (arith, some) in
        subst (AreAsked (named_nodes names unit) (first - 1))
        (ap (λ (n : TreeNode (List ℕ)). with_parts n.kind (first - 1) (surrounding_at surroundings (first - 1)) 0 n.children surroundings)
        (node_at-named (first - 1) node has) ∙ sym told)
        (one_more_asked (named_nodes names unit) (each_is_part_once laid order) surroundings (first - 1) within
        (subst (λ (n : ℕ). AreAsked (named_nodes names unit) n surroundings) next are))
