-- The nodes of a unit by their handles, where the first one has handle 0. What isn't there says nothing.
use Rattle.std.specs.Prelude.{ℕ, List, [], map, length, get_or, drop}
use Rattle.vocabulary.specs.declared.node_kind.NodeKind.{NodeKind}
use Rattle.vocabulary.specs.declared.node_kind.NodeKind.TheVariants.{EmptyDeclaration}
use Rattle.meaning_tree.specs.Nodes.{TreeNode, NodeList}

abbrev pub UnitNodes : Type 0
UnitNodes = List (TreeNode (List ℕ))

abbrev pub no_node : TreeNode (List ℕ)
no_node = record { kind = EmptyDeclaration; token = 0; name = []; number = 0; children = [] }

abbrev pub node_at : UnitNodes → ℕ → TreeNode (List ℕ)
node_at nodes handle = get_or nodes handle no_node

abbrev pub kind_at : UnitNodes → ℕ → NodeKind
kind_at nodes handle = (node_at nodes handle).kind

-- the handles of its children, in order
abbrev pub children_at : UnitNodes → ℕ → List ℕ
children_at nodes handle = map (λ child. child.0) (node_at nodes handle).children

-- the child at this place, counted from 0; where there is none, a handle that no node has
abbrev pub child_at : UnitNodes → (parent place : ℕ) → ℕ
child_at nodes parent place = get_or (children_at nodes parent) place (length nodes)

-- the children from this place on
abbrev pub children_from : UnitNodes → (parent place : ℕ) → List ℕ
children_from nodes parent place = drop place (children_at nodes parent)

-- as a list of nodes of which the first one has handle 0
abbrev pub unit_list : UnitNodes → NodeList (List ℕ)
unit_list nodes = record { first = 0; nodes = nodes }
