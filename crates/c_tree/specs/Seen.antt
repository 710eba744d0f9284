-- How the values of this crate are seen by the definitions of `meaning_tree`.
use Rattle.std.specs.Prelude.{◌≡◌, ℕ, ◌<◌, ◌≤◌, List, map, length}
use Rattle.meaning_tree.specs.Trees.{Tree}
use Rattle.meaning_tree.specs.Nodes.{TreeNode, NodeList, end_of, HasNode, StandsFor, ChildrenStandBefore, IsTreeOf}
use Rattle.sparse_model.specs.declared.ids.NameId.{NameId}
use Rattle.c_tree.specs.declared.node.Node.{Node}

-- a node, with the handles and the tags of its children
abbrev pub node_of : Node → TreeNode NameId
node_of node = record {
  kind = node.kind;
  token = node.token;
  name = node.name;
  number = node.number;
  children = node.children;
}

-- a node is seen with all that it holds
abbrev pub NodesAreSeenWhole : Type 0
NodesAreSeenWhole = (node other : Node) → node_of node ≡ node_of other → node ≡ other

-- nodes, of which the first one has this handle
abbrev pub list_of : ℕ → List Node → NodeList NameId
list_of first nodes = record { first = first; nodes = map node_of nodes }

-- how many nodes a unit can have, the handles before its first one counted in
abbrev pub most_nodes : ℕ
most_nodes = 16000000

-- what always holds of a unit
pub record IsUnitList (list : NodeList NameId) : Type 0 where
  pub small : end_of list ≤ most_nodes
  pub order : ChildrenStandBefore list

-- the node with this handle is so
abbrev pub HasNodeWith : NodeList NameId → ℕ → (TreeNode NameId → Type 0) → Type 0
HasNodeWith list handle P = (node : TreeNode NameId) × HasNode list handle node × P node

-- the node with this handle stands for one tree, and for no other
abbrev pub StandsForOne : NodeList NameId → ℕ → Type 0
StandsForOne list handle =
    (tree : Tree NameId) × StandsFor list handle tree × ((other : Tree NameId) → StandsFor list handle other → tree ≡ other)

abbrev pub EachStandsForOneTree : NodeList NameId → Type 0
EachStandsForOneTree list = (handle : ℕ) → list.first ≤ handle → handle < end_of list → StandsForOne list handle

-- a list that has nodes stands for the tree of its last one
abbrev pub IsFinished : NodeList NameId → Type 0
IsFinished list = 0 < length list.nodes → (tree : Tree NameId) × IsTreeOf list tree
