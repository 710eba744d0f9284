-- The tree that a node stands for, in a list of nodes that name their children by handles.
use Rattle.std.specs.Prelude.{◌≡◌, ℕ, ◌+◌, ◌-◌, ◌<◌, ◌≤◌, List, [], ◌∷◌, ◌++◌, Some, All, length, slice_get}
use Rattle.vocabulary.specs.declared.node_kind.NodeKind.{NodeKind}
use Rattle.vocabulary.specs.Roles.{role_of}
use Rattle.meaning_tree.specs.Trees.{Tree, Node, Parts, NoParts, Part}

-- a node, with the handle and the tag of each child
pub record TreeNode (Spelling : Type 0) : Type 0 where
  pub kind : NodeKind
  pub token : ℕ
  pub name : Spelling
  pub number : ℕ
  pub children : List (ℕ × ℕ)

-- Nodes in the order in which they were added. The first one has the handle `first`, each other one the next handle.
pub record NodeList (Spelling : Type 0) : Type 0 where
  pub first : ℕ
  pub nodes : List (TreeNode Spelling)

-- the handle that the next node will have
abbrev pub end_of : {Spelling : Type 0} → NodeList Spelling → ℕ
end_of list = list.first + length list.nodes

-- this node has this handle
abbrev pub HasNode : {Spelling : Type 0} → NodeList Spelling → ℕ → TreeNode Spelling → Type 0
HasNode list handle node = (list.first ≤ handle) × (slice_get list.nodes (handle - list.first) ≡ Some node)

-- The node with this handle makes this tree with its children, and children make these parts.
abbrev mutual
  -- the list has the tree's node at the handle, and its children make the tree's parts
  pub StandsFor : {Spelling : Type 0} → NodeList Spelling → ℕ → Tree Spelling → Type 0
  StandsFor list handle (Node kind token name number parts) =
      (children : List (ℕ × ℕ))
      × HasNode list handle (record { kind = kind; token = token; name = name; number = number; children = children })
      × StandFor list children parts

  -- each child, in order, makes a tree, and its tag keeps the role of the part
  pub StandFor : {Spelling : Type 0} → NodeList Spelling → List (ℕ × ℕ) → Parts Spelling → Type 0
  StandFor list [] NoParts = Unit {0}
  StandFor list (child ∷ children) (Part role tree parts) =
      (role ≡ role_of child.1) × StandsFor list child.0 tree × StandFor list children parts
  StandFor list [] (Part role tree parts) = ⊥
  StandFor list (child ∷ children) NoParts = ⊥

-- a finished list stands for the tree of its last node
abbrev pub IsTreeOf : {Spelling : Type 0} → NodeList Spelling → Tree Spelling → Type 0
IsTreeOf list tree = (0 < length list.nodes) × StandsFor list (end_of list - 1) tree

-- each child stands before its parent, and not before the list begins
abbrev pub ChildrenStandBefore : {Spelling : Type 0} → NodeList Spelling → Type 0
ChildrenStandBefore {Spelling} list =
    (handle : ℕ) (node : TreeNode Spelling) → HasNode list handle node
    → All (λ child. (list.first ≤ child.0) × (child.0 < handle)) node.children

-- some more nodes were added
abbrev pub Grows : {Spelling : Type 0} → NodeList Spelling → NodeList Spelling → Type 0
Grows {Spelling} before after =
    (after.first ≡ before.first) × ((more : List (TreeNode Spelling)) × (after.nodes ≡ before.nodes ++ more))

-- a list behind another, which begins where that one ends
abbrev pub joined : {Spelling : Type 0} → NodeList Spelling → NodeList Spelling → NodeList Spelling
joined list part = record list { nodes = list.nodes ++ part.nodes }

-- a list with one more node
abbrev pub with_node : {Spelling : Type 0} → NodeList Spelling → TreeNode Spelling → NodeList Spelling
with_node list node = record list { nodes = list.nodes ++ node ∷ [] }
