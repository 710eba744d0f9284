-- Each node of a tree stands behind its parts.
use Rattle.std.proofs.Common.{◌≡◌, ℕ, ◌+◌, ◌<◌, ◌≤◌, Bool, true, false, List, ◌∷◌, ◌++◌, length, All, if◌then◌else◌, subst, sym, arith}
use Rattle.std.proofs.lemmas.List.Elements.{All-nil, All-cons, All-weaker}
use Rattle.vocabulary.specs.declared.role.Role.{Role}
use Rattle.vocabulary.specs.Roles.{role_tag}
use Rattle.meaning_tree.specs.Trees.{SyntaxTree, Node, Parts, NoParts, Part}
use Rattle.meaning_tree.specs.Nodes.{TreeNode, ChildrenStandBefore}
use Rattle.meaning_tree.specs.Laid.{size_of, sizes_of}
use Rattle.meaning_tree.proofs.Finding.{stand_before-nil, stand_before-joined, stand_before-added}
use Rattle.meaning_unit_nodes.specs.Written.{is_suffix, root_from, children_from, nodes_from, part_nodes_from}
use Rattle.meaning_unit_nodes.proofs.Sizes.{nodes-size, parts-size}
use Rattle.meaning_unit_nodes.proofs.Standing.{root_last}

-- the nodes, of which the first one has this handle, stand behind their parts
abbrev AreOrdered : (first : ℕ) → List (TreeNode (List ℕ)) → Type 0
AreOrdered first nodes = ChildrenStandBefore (record { first = first; nodes = nodes })

-- a part stands in this run
abbrev IsWithin : (first end : ℕ) → ℕ × ℕ → Type 0
IsWithin first end child = (first ≤ child.0) × (child.0 < end)

abbrev StandWithin : (first end : ℕ) → List (ℕ × ℕ) → Type 0
StandWithin first end children = All (IsWithin first end) children

within-wider : (first end outer last : ℕ) (children : List (ℕ × ℕ)) → outer ≤ first → end ≤ last → StandWithin first end children
    → StandWithin outer last children
within-wider first end outer last children low high stand =
    All-weaker (IsWithin first end) (IsWithin outer last) (λ child is. (omega (arith, low, is.0), omega (arith, high, is.1))) children stand

some-node : (tree : SyntaxTree) → 0 < size_of tree
some-node (Node kind token name number parts) = omega arith

root-within : (start first last : ℕ) (tree : SyntaxTree) → first ≤ start → start + size_of tree ≤ last
    → (first ≤ root_from start tree) × (root_from start tree < last)
root-within start first last tree low high =
    let root = root_last start tree in
    (omega (arith, root, some-node tree, low), omega (arith, root, high))

-- a part and those that follow it, in either order
children-by : (suffix : Bool) (first : ℕ) (role : Role) (tree : SyntaxTree) (parts : Parts (List ℕ))
    → ((start : ℕ) → StandWithin start (start + sizes_of parts) (children_from start parts))
    → StandWithin first (first + (size_of tree + sizes_of parts))
    ((root_from (if suffix then first + sizes_of parts else first) tree, role_tag role) ∷ children_from (if suffix then first else first + size_of tree) parts)
children-by true first role tree parts following =
    let last = first + (size_of tree + sizes_of parts) in
    All-cons (IsWithin first last) (root_from (first + sizes_of parts) tree, role_tag role) (children_from first parts)
    (root-within (first + sizes_of parts) first last tree (omega arith) (omega arith))
    (within-wider first (first + sizes_of parts) first (first + (size_of tree + sizes_of parts)) (children_from first parts) (omega arith) (omega arith) (following first))
children-by false first role tree parts following =
    let last = first + (size_of tree + sizes_of parts) in
    All-cons (IsWithin first last) (root_from first tree, role_tag role) (children_from (first + size_of tree) parts)
    (root-within first first last tree (omega arith) (omega arith))
    (within-wider (first + size_of tree) (first + size_of tree + sizes_of parts) first (first + (size_of tree + sizes_of parts))
    (children_from (first + size_of tree) parts) (omega arith) (omega arith) (following (first + size_of tree)))

children-within : (first : ℕ) (parts : Parts (List ℕ)) → StandWithin first (first + sizes_of parts) (children_from first parts)
children-within first NoParts = All-nil _
children-within first (Part role tree parts) =
    children-by (is_suffix tree) first role tree parts (λ start. children-within start parts)

-- a list behind another one
joined : (first : ℕ) (front back : List (TreeNode (List ℕ))) (size : ℕ) → length front ≡ size → AreOrdered first front
    → AreOrdered (first + size) back → AreOrdered first (front ++ back)
joined first front back size long one other =
    stand_before-joined (record { first = first; nodes = front }) (record { first = first + size; nodes = back }) (omega (arith, long)) one other

ordered-by : (suffix : Bool) (first : ℕ) (tree : SyntaxTree) (parts : Parts (List ℕ)) → ((start : ℕ) → AreOrdered start (nodes_from start tree))
    → ((start : ℕ) → AreOrdered start (part_nodes_from start parts))
    → AreOrdered first
    (if suffix then part_nodes_from (if suffix then first else first + size_of tree) parts ++ nodes_from (if suffix then first + sizes_of parts else first) tree
    else nodes_from (if suffix then first + sizes_of parts else first) tree ++ part_nodes_from (if suffix then first else first + size_of tree) parts)
ordered-by true first tree parts own following =
    joined first (part_nodes_from first parts) (nodes_from (first + sizes_of parts) tree) (sizes_of parts) (parts-size first parts) (following first)
    (own (first + sizes_of parts))
ordered-by false first tree parts own following =
    joined first (nodes_from first tree) (part_nodes_from (first + size_of tree) parts) (size_of tree) (nodes-size first tree) (own first)
    (following (first + size_of tree))

mutual
  pub tree-ordered : (first : ℕ) (tree : SyntaxTree) → AreOrdered first (nodes_from first tree)
  tree-ordered first (Node kind token name number parts) =
      let children : StandWithin first (first + length (part_nodes_from first parts)) (children_from first parts) =
      subst (λ (many : ℕ). StandWithin first (first + many) (children_from first parts)) (sym (parts-size first parts)) (children-within first parts) in
      stand_before-added (record { first = first; nodes = part_nodes_from first parts })
      (record { kind = kind; token = token; name = name; number = number; children = children_from first parts }) (parts-ordered first parts) children

  parts-ordered : (first : ℕ) (parts : Parts (List ℕ)) → AreOrdered first (part_nodes_from first parts)
  parts-ordered first NoParts = stand_before-nil first
  parts-ordered first (Part role tree parts) =
      ordered-by (is_suffix tree) first tree parts (λ start. tree-ordered start tree) (λ start. parts-ordered start parts)
