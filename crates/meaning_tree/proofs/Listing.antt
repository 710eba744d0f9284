-- The trees of a list of nodes, and what stays of them where nodes are added.
use Rattle.std.proofs.Common.{◌≡◌, ℕ, ◌+◌, ◌<◌, true, List, [], ◌∷◌, ◌++◌, map, length, nat_lt, refl, ap, ◌∙◌, arith}
use Rattle.std.specs.List.{list_all}
use Rattle.std.proofs.lemmas.Bool.{and_parts, ltb-true}
use Rattle.std.proofs.lemmas.List.{length-append, map-append, get_or_append_left, get_or_at}
use Rattle.vocabulary.specs.Roles.{role_of}
use Rattle.meaning_tree.specs.Trees.{SyntaxTree, Parts, NoParts, Part, with_parts}
use Rattle.meaning_tree.specs.Nodes.{TreeNode, NodeList, with_node}
use Rattle.meaning_tree.specs.Listed.{renamed_node, renamed_list, no_tree, tree_at, parts_at, tree_over, trees_from, trees_of}

-- Parts

-- nothing behind parts
pub with_parts-NoParts : {Spelling : Type 0} (parts : Parts Spelling) → with_parts parts NoParts ≡ parts
with_parts-NoParts NoParts = refl
with_parts-NoParts (Part role tree parts) = ap (Part role tree) (with_parts-NoParts parts)

-- parts of children behind others
pub parts_at-append : (trees : List SyntaxTree) (children more : List (ℕ × ℕ)) → parts_at trees (children ++ more) ≡ with_parts (parts_at trees children) (parts_at trees more)
parts_at-append trees [] more = refl
parts_at-append trees (child ∷ children) more = ap (Part (role_of child.1) (tree_at trees child.0)) (parts_at-append trees children more)

-- Trees

-- one more node is one more tree behind the others
pub trees_from-added : (trees : List SyntaxTree) (nodes : List (TreeNode (List ℕ))) (node : TreeNode (List ℕ))
    → trees_from trees (nodes ++ node ∷ []) ≡ trees_from trees nodes ++ tree_over (trees_from trees nodes) node ∷ []
trees_from-added trees [] node = refl
trees_from-added trees (first ∷ nodes) node = trees_from-added (trees ++ tree_over trees first ∷ []) nodes node

pub length-trees_from : (trees : List SyntaxTree) (nodes : List (TreeNode (List ℕ))) → length (trees_from trees nodes) ≡ length trees + length nodes
length-trees_from trees [] = omega arith
length-trees_from trees (first ∷ nodes) =
    let rest = length-trees_from (trees ++ tree_over trees first ∷ []) nodes in
    let one = length-append trees (tree_over trees first ∷ []) in
    omega (arith, rest, one)

-- a tree stays where others come behind it
pub tree_at-stays : (trees more : List SyntaxTree) (handle : ℕ) → handle < length trees → tree_at (trees ++ more) handle ≡ tree_at trees handle
tree_at-stays trees more handle below = get_or_append_left trees more no_tree handle below

-- the first of those behind them
pub tree_at-next : (trees : List SyntaxTree) (tree : SyntaxTree) (handle : ℕ) → length trees ≡ handle → tree_at (trees ++ tree ∷ []) handle ≡ tree
tree_at-next trees tree handle is = get_or_at trees tree [] no_tree handle is

-- parts stay too
pub parts_at-stays : (trees more : List SyntaxTree) (children : List (ℕ × ℕ)) → list_all (λ child. nat_lt child.0 (length trees)) children ≡ true
    → parts_at (trees ++ more) children ≡ parts_at trees children
parts_at-stays trees more [] below = refl
parts_at-stays trees more (child ∷ children) below =
    let halves = and_parts (nat_lt child.0 (length trees)) (list_all (λ (other : ℕ × ℕ). nat_lt other.0 (length trees)) children) below in
    let one = tree_at-stays trees more child.0 (ltb-true child.0 (length trees) halves.0) in
    let rest = parts_at-stays trees more children halves.1 in
    ap (λ tree. Part (role_of child.1) tree (parts_at (trees ++ more) children)) one ∙ ap (Part (role_of child.1) (tree_at trees child.0)) rest

-- the trees of a list with other names and one more node
pub trees_of-added : {N : Type 0} (renaming : N → List ℕ) (list : NodeList N) (node : TreeNode N)
    → trees_of (renamed_list renaming (with_node list node))
    ≡ trees_of (renamed_list renaming list) ++ tree_over (trees_of (renamed_list renaming list)) (renamed_node renaming node) ∷ []
trees_of-added renaming list node =
    ap (trees_from []) (map-append (renamed_node renaming) list.nodes (node ∷ []))
    ∙ trees_from-added [] (map (renamed_node renaming) list.nodes) (renamed_node renaming node)
