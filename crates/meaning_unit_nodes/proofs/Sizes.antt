-- A tree has as many nodes as are listed.
use Rattle.std.proofs.Common.{◌≡◌, ℕ, ◌+◌, Bool, true, false, List, [], ◌∷◌, ◌++◌, length, if◌then◌else◌, refl, arith, length-append}
use Rattle.meaning_tree.specs.Trees.{SyntaxTree, Node, Parts, NoParts, Part}
use Rattle.meaning_tree.specs.Nodes.{TreeNode}
use Rattle.meaning_tree.specs.Laid.{size_of, sizes_of}
use Rattle.meaning_unit_nodes.specs.Written.{is_suffix, part_start, following_start, children_from, nodes_from, part_nodes_from}

joined-size : (suffix : Bool) (own following : List (TreeNode (List ℕ))) (size sizes : ℕ) → length own ≡ size → length following ≡ sizes
    → length (if suffix then following ++ own else own ++ following) ≡ size + sizes
joined-size true own following size sizes one more = omega (arith, one, more, length-append following own)
joined-size false own following size sizes one more = omega (arith, one, more, length-append own following)

mutual
  pub nodes-size : (first : ℕ) (tree : SyntaxTree) → length (nodes_from first tree) ≡ size_of tree
  nodes-size first (Node kind token name number parts) =
      let own : TreeNode (List ℕ) = record { kind = kind; token = token; name = name; number = number; children = children_from first parts } in
      omega (arith, parts-size first parts, length-append (part_nodes_from first parts) (own ∷ []))

  pub parts-size : (first : ℕ) (parts : Parts (List ℕ)) → length (part_nodes_from first parts) ≡ sizes_of parts
  parts-size first NoParts = refl
  parts-size first (Part role tree parts) =
      joined-size (is_suffix tree) (nodes_from (part_start first tree parts) tree) (part_nodes_from (following_start first tree) parts) (size_of tree) (sizes_of parts)
      (nodes-size (part_start first tree parts) tree) (parts-size (following_start first tree) parts)
