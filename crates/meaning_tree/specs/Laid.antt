-- How trees lie in a list of nodes: the nodes of each tree are one run of the list, which ends at the tree's root.
use Rattle.std.specs.Prelude.{◌≡◌, ◌↔◌, ℕ, ◌+◌, ◌<◌, ◌≤◌, Some}
use Rattle.meaning_tree.specs.Trees.{Tree, Node, Parts, NoParts, Part}
use Rattle.meaning_tree.specs.Nodes.{NodeList, end_of, StandsFor}
use Rattle.meaning_tree.specs.LookUps.{child_at}

abbrev mutual
  -- how many nodes a tree has
  pub size_of : {Spelling : Type 0} → Tree Spelling → ℕ
  size_of (Node kind token name number parts) = 1 + sizes_of parts

  -- how many nodes parts have
  pub sizes_of : {Spelling : Type 0} → Parts Spelling → ℕ
  sizes_of NoParts = 0
  sizes_of (Part role tree parts) = size_of tree + sizes_of parts

-- a node is a child of another one at this place, counted from 0
abbrev pub IsChildAt : {Spelling : Type 0} → NodeList Spelling → (parent place child : ℕ) → Type 0
IsChildAt list parent place child = (tag : ℕ) × (child_at list parent place ≡ Some (child, tag))

-- The node itself, its children, their children and so on.
pub data IsWithin {Spelling : Type 0} (list : NodeList Spelling) : (root part : ℕ) → Type 0 where
  itself : {root : ℕ} → IsWithin list root root
  in_child : {root part : ℕ} (place child : ℕ) → IsChildAt list root place child → IsWithin list child part → IsWithin list root part

-- a node is a child of exactly one node, once
abbrev pub HasOneParent : {Spelling : Type 0} → NodeList Spelling → ℕ → Type 0
HasOneParent list child =
    (parent place : ℕ) × IsChildAt list parent place child
    × ((other elsewhere : ℕ) → IsChildAt list other elsewhere child → (other ≡ parent) × (elsewhere ≡ place))

pub record IsLaid {Spelling : Type 0} (list : NodeList Spelling) : Type 0 where
  -- a tree of so many nodes has the last so many that end at its root, and no others
  pub runs : (root part : ℕ) (tree : Tree Spelling) → StandsFor list root tree
      → IsWithin list root part ↔ ((root < part + size_of tree) × (part ≤ root))
  -- each node but the last is a part of exactly one node, once
  pub parents : (part : ℕ) → list.first ≤ part → part + 1 < end_of list → HasOneParent list part
