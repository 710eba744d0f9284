-- The nodes of a tree in the order in which its forms are written: each node behind its parts.
use Rattle.std.specs.Prelude.{ℕ, ◌+◌, Bool, true, false, List, [], ◌∷◌, ◌++◌, if◌then◌else◌}
use Rattle.vocabulary.specs.declared.node_kind.NodeKind.{NodeKind}
use Rattle.vocabulary.specs.declared.node_kind.NodeKind.TheVariants.{ArrayDeclarator, FunctionDeclarator}
use Rattle.vocabulary.specs.Roles.{role_tag}
use Rattle.meaning_tree.specs.Trees.{SyntaxTree, Node, Parts, NoParts, Part}
use Rattle.meaning_tree.specs.Nodes.{TreeNode}
use Rattle.meaning_tree.specs.Laid.{size_of, sizes_of}

-- Parts stand in the order in which they are written, but for those of a declarator, which stand from the specified type
-- outwards. There an array's size or a parameter list is written behind the parts that follow it: behind the declarator
-- that it belongs to, and behind the sizes and parameter lists that are nearer to the name (C11 6.7.6 p1).
abbrev pub is_suffix_kind : NodeKind → Bool
is_suffix_kind ArrayDeclarator = true
is_suffix_kind FunctionDeclarator = true
is_suffix_kind kind = false

abbrev pub is_suffix : SyntaxTree → Bool
is_suffix (Node kind token name number parts) = is_suffix_kind kind

-- the handle of the first node of a part, where the nodes of the part and of those that follow it begin at `first`
abbrev pub part_start : (first : ℕ) → SyntaxTree → (following : Parts (List ℕ)) → ℕ
part_start first tree following = if is_suffix tree then first + sizes_of following else first

-- and of those that follow it
abbrev pub following_start : (first : ℕ) → SyntaxTree → ℕ
following_start first tree = if is_suffix tree then first else first + size_of tree

-- the handle of a tree's root, where its first node has this handle
abbrev pub root_from : (first : ℕ) → SyntaxTree → ℕ
root_from first (Node kind token name number parts) = first + sizes_of parts

-- the handles of parts, each with the tag of its role
abbrev pub children_from : (first : ℕ) → Parts (List ℕ) → List (ℕ × ℕ)
children_from first NoParts = []
children_from first (Part role tree parts) =
    (root_from (part_start first tree parts) tree, role_tag role) ∷ children_from (following_start first tree) parts

-- a part's nodes before those of the parts that follow it, or behind them
abbrev pub in_order : SyntaxTree → (own following : List (TreeNode (List ℕ))) → List (TreeNode (List ℕ))
in_order tree own following = if is_suffix tree then following ++ own else own ++ following

abbrev mutual
  -- the nodes of a tree, where the first one has this handle
  pub nodes_from : (first : ℕ) → SyntaxTree → List (TreeNode (List ℕ))
  nodes_from first (Node kind token name number parts) =
      part_nodes_from first parts
      ++ record { kind = kind; token = token; name = name; number = number; children = children_from first parts } ∷ []

  -- those of parts
  pub part_nodes_from : (first : ℕ) → Parts (List ℕ) → List (TreeNode (List ℕ))
  part_nodes_from first NoParts = []
  part_nodes_from first (Part role tree parts) =
      in_order tree (nodes_from (part_start first tree parts) tree) (part_nodes_from (following_start first tree) parts)

-- the nodes of a unit, of which the first one has handle 0
abbrev pub nodes_in : SyntaxTree → List (TreeNode (List ℕ))
nodes_in tree = nodes_from 0 tree
