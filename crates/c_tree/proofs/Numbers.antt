-- A node's number has no say in what always holds of a unit.
use Rattle.std.proofs.Common.{◌≡◌, ℕ, zero, suc, ◌-◌, ◌<◌, ◌≤◌, List, [], ◌∷◌, map, length, slice_get, slice_set, Some, All, refl, sym, ap, subst, ◌∙◌, arith}
use Rattle.std.proofs.lemmas.Option.{same_Some, slice_get_within}
use Rattle.meaning_tree.specs.Nodes.{TreeNode, NodeList, end_of, HasNode}
use Rattle.sparse_model.specs.declared.ids.NameId.{NameId}
use Rattle.c_tree.specs.declared.node.Node.{Node}
use Rattle.c_tree.specs.Seen.{node_of, list_of, IsUnitList}
use Rattle.c_tree.specs.Numbers.{numbered_at, with_number}

module _ {Spelling : Type 0} where
  pub length-numbered : (nodes : List (TreeNode Spelling)) (place number : ℕ) → length (numbered_at nodes place number) ≡ length nodes
  length-numbered [] place number = refl
  length-numbered (node ∷ nodes) zero number = refl
  length-numbered (node ∷ nodes) (suc place) number = ap suc (length-numbered nodes place number)

  -- each node was there, with the same children
  pub node-numbered :
      (nodes : List (TreeNode Spelling)) (place number other : ℕ) (node : TreeNode Spelling) → slice_get (numbered_at nodes place number) other ≡ Some node
      → (before : TreeNode Spelling) × (slice_get nodes other ≡ Some before) × (before.children ≡ node.children)
  node-numbered [] place number other node is = (node, is, refl)
  node-numbered (first ∷ nodes) zero number zero node is = (first, refl, ap (λ (one : TreeNode Spelling). one.children) (same_Some _ node is))
  node-numbered (first ∷ nodes) zero number (suc other) node is = (node, is, refl)
  node-numbered (first ∷ nodes) (suc place) number zero node is = (node, is, refl)
  node-numbered (first ∷ nodes) (suc place) number (suc other) node is = node-numbered nodes place number other node is

-- the node that is set is the one that was there
pub numbered-seen :
    (nodes : List Node) (place number : ℕ) (node : Node) → slice_get nodes place ≡ Some node
    → map node_of (slice_set nodes place (record node { number = number })) ≡ numbered_at (map node_of nodes) place number
numbered-seen [] place number node is = absurd (omega (arith, slice_get_within [] place node is))
numbered-seen (first ∷ nodes) zero number node is =
    subst (λ (one : Node). map node_of (slice_set (first ∷ nodes) zero (record one { number = number })) ≡ numbered_at (map node_of (first ∷ nodes)) zero number) (same_Some first node is) refl
numbered-seen (first ∷ nodes) (suc place) number node is = ap (λ rest. node_of first ∷ rest) (numbered-seen nodes place number node is)

-- so a unit stays one
pub IsUnitList-numbered : (list : NodeList NameId) (handle number : ℕ) → IsUnitList list → IsUnitList (with_number list handle number)
IsUnitList-numbered list handle number unit = record {
  small = omega (arith, unit.small, length-numbered list.nodes (handle - list.first) number);
  order = λ other node has.
      let (before, was, children) = node-numbered list.nodes (handle - list.first) number (other - list.first) node has.1 in
      subst (All (λ child. (list.first ≤ child.0) × (child.0 < other))) children (unit.order other before (has.0, was));
}
