-- Storage classes, by handles.
use Rattle.std.specs.Prelude.{ℕ, Bool, false, List, Option, Some, None}
use Rattle.std.specs.List.{list_any}
use Rattle.vocabulary.specs.declared.node_kind.NodeKind.{NodeKind}
use Rattle.meaning_tree.specs.Nodes.{TreeNode, NodeList}
use Rattle.meaning_tree.specs.LookUps.{node_at}
use Rattle.meaning_derivation.specs.Storage as meaning
use Rattle.meaning_derivation.specs.Storage.{TypedefClass, ExternClass, OtherClass, class_with, is_typedef, is_extern}
use Rattle.sparse_model.specs.declared.ids.NameId.{NameId}
use Rattle.parse_state.specs.declared.storage.StorageClass.{StorageClass}
use Rattle.parse_state.specs.declared.storage.StorageClass.TheVariants as kinds

-- how a class is seen
abbrev pub class_of : StorageClass → meaning.StorageClass
class_of kinds.Typedef = TypedefClass
class_of kinds.Extern = ExternClass
class_of kinds.Other = OtherClass

-- a node that was looked up is of such a kind
abbrev pub is_of_kind : (NodeKind → Bool) → Option (TreeNode NameId) → Bool
is_of_kind is_kind None = false
is_of_kind is_kind (Some node) = is_kind node.kind

-- some child is
abbrev pub has_child : (NodeKind → Bool) → NodeList NameId → List (ℕ × ℕ) → Bool
has_child is_kind list children = list_any (λ child. is_of_kind is_kind (node_at list child.0)) children

-- the storage class of these children
abbrev pub children_class : NodeList NameId → List (ℕ × ℕ) → meaning.StorageClass
children_class list children = class_with (has_child is_typedef list children) (has_child is_extern list children)
