-- Nodes of a unit, as they are seen.
use Rattle.std.proofs.Common.{◌≡◌, ℕ, ◌-◌, List, Some, map, get_or, slice_get, sym, ap, ◌∙◌, subst}
use Rattle.std.proofs.Math.Nat.{sub-zero}
use Rattle.std.proofs.lemmas.List.{get_or-map}
use Rattle.std.proofs.lemmas.Option.{get_or_from_slice_get, slice_get_within}
use Rattle.sparse_model.specs.declared.ids.NameId.{NameId}
use Rattle.meaning_tree.specs.Nodes.{TreeNode, NodeList, HasNode}
use Rattle.meaning_typing.specs.Units.{no_node, node_at}
use Rattle.decl_judge.specs.Units.{named_node, nodes_of}

named_get : (nodes : List (TreeNode NameId)) (handle : ℕ) (node : TreeNode NameId) → slice_get nodes handle ≡ Some node
    → get_or (map named_node nodes) handle no_node ≡ named_node node
named_get nodes handle node found =
    get_or-map named_node nodes handle node no_node (slice_get_within nodes handle node found)
    ∙ ap named_node (get_or_from_slice_get nodes handle node node found)

-- the node with a handle, in a unit whose first one has handle 0
pub named_at : (unit : NodeList NameId) (handle : ℕ) (node : TreeNode NameId) → unit.first ≡ 0 → HasNode unit handle node
    → named_node node ≡ node_at (nodes_of unit) handle
named_at unit handle node whole has =
    sym (named_get unit.nodes handle node
    (ap (slice_get unit.nodes) (sym (sub-zero handle)) ∙ subst (λ first. slice_get unit.nodes (handle - first) ≡ Some node) whole has.1))
