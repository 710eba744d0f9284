-- The trees of a list of nodes by their handles, each built over those that stand before it.
use Rattle.std.specs.Prelude.{ℕ, List, [], ◌∷◌, ◌++◌, map, get_or}
use Rattle.vocabulary.specs.declared.node_kind.NodeKind.TheVariants.{TranslationUnit}
use Rattle.vocabulary.specs.Roles.{role_of}
use Rattle.meaning_tree.specs.Trees.{SyntaxTree, Node, Parts, NoParts, Part}
use Rattle.meaning_tree.specs.Nodes.{TreeNode, NodeList}

-- the same nodes with other names
abbrev pub renamed_node : {N M : Type 0} → (N → M) → TreeNode N → TreeNode M
renamed_node renaming node =
    record { kind = node.kind; token = node.token; name = renaming node.name; number = node.number; children = node.children }

abbrev pub renamed_list : {N M : Type 0} → (N → M) → NodeList N → NodeList M
renamed_list renaming list = record { first = list.first; nodes = map (renamed_node renaming) list.nodes }

-- what stands for a tree that isn't there
abbrev pub no_tree : SyntaxTree
no_tree = Node TranslationUnit 0 [] 0 NoParts

-- the tree with this handle, where the first of these trees has handle 0
abbrev pub tree_at : List SyntaxTree → ℕ → SyntaxTree
tree_at trees handle = get_or trees handle no_tree

-- the trees of children, each in the role that its tag keeps
abbrev pub parts_at : List SyntaxTree → List (ℕ × ℕ) → Parts (List ℕ)
parts_at trees [] = NoParts
parts_at trees (child ∷ children) = Part (role_of child.1) (tree_at trees child.0) (parts_at trees children)

-- the tree of a node over the trees before it
abbrev pub tree_over : List SyntaxTree → TreeNode (List ℕ) → SyntaxTree
tree_over trees node = Node node.kind node.token node.name node.number (parts_at trees node.children)

-- these trees, and behind them those of nodes
abbrev pub trees_from : List SyntaxTree → List (TreeNode (List ℕ)) → List SyntaxTree
trees_from trees [] = trees
trees_from trees (node ∷ nodes) = trees_from (trees ++ tree_over trees node ∷ []) nodes

-- the trees of a list whose first handle is 0
abbrev pub trees_of : NodeList (List ℕ) → List SyntaxTree
trees_of list = trees_from [] list.nodes
