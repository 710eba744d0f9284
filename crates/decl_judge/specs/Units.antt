-- How the nodes of a unit are seen by the definitions, which know names by what is seen of them.
use Rattle.std.specs.Prelude.{ℕ, List, Option, Some, None, get_or, length, map}
use Rattle.sparse_model.specs.declared.ids.NameId.{NameId}
use Rattle.meaning_tree.specs.Nodes.{TreeNode, NodeList}
use Rattle.meaning_tree.specs.Listed.{renamed_node}
use Rattle.meaning_typing.specs.Units.{UnitNodes, no_node}
use Rattle.node_facts.specs.Facts.{name_seen}

-- a node, with its name as it is seen
abbrev pub named_node : TreeNode NameId → TreeNode (List ℕ)
named_node node = renamed_node name_seen node

-- the nodes of a unit whose first one has handle 0
abbrev pub nodes_of : NodeList NameId → UnitNodes
nodes_of unit = map named_node unit.nodes

abbrev pub node_or_none : Option (TreeNode NameId) → TreeNode (List ℕ)
node_or_none None = no_node
node_or_none (Some node) = named_node node

-- the handles of tagged children, in order
abbrev pub handles_of : List (ℕ × ℕ) → List ℕ
handles_of children = map (λ child. child.0) children

-- the child at this place, or a handle that no node has
abbrev pub child_or_none : UnitNodes → List (ℕ × ℕ) → (place : ℕ) → ℕ
child_or_none nodes children place = get_or (handles_of children) place (length nodes)
