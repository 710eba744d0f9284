-- One name that is linked with what declares it.
use Rattle.std.specs.Prelude.{◌≡◌, ℕ, List, Some, slice_get}
use Rattle.vocabulary.specs.declared.node_kind.NodeKind.TheVariants.{Name}
use Rattle.sparse_model.specs.declared.ids.NameId.{NameId}
use Rattle.meaning_tree.specs.Nodes.{TreeNode}
use Rattle.meaning_unit_nodes.specs.Linked.{HasLink}

-- if the node with this handle is a name, it is linked
abbrev pub IsLinkedAt : List (TreeNode NameId) → (handle : ℕ) → Type 0
IsLinkedAt nodes handle = (node : TreeNode NameId) → slice_get nodes handle ≡ Some node → node.kind ≡ Name → HasLink nodes handle node
