-- The nodes of a tree with other names are its nodes with these names.
use Rattle.std.proofs.Common.{◌≡◌, ℕ, ◌+◌, Bool, true, false, List, [], ◌∷◌, ◌++◌, map, if◌then◌else◌, refl, sym, ap, ap₂, ◌∙◌}
use Rattle.vocabulary.specs.Roles.{role_tag}
use Rattle.meaning_tree.specs.Trees.{SyntaxTree, Node, Parts, NoParts, Part}
use Rattle.meaning_tree.specs.Nodes.{TreeNode}
use Rattle.meaning_tree.specs.Laid.{size_of, sizes_of}
use Rattle.meaning_tree.specs.Listed.{renamed_node}
use Rattle.meaning_unit_nodes.specs.Written.{is_suffix, part_start, following_start, root_from, children_from, in_order, nodes_from, part_nodes_from}
use Rattle.meaning_unit_nodes.specs.Laws.{with_names, parts_with_names}

module _ (renaming : List ℕ → List ℕ) where
  abbrev named : List (TreeNode (List ℕ)) → List (TreeNode (List ℕ))
  named nodes = map (renamed_node renaming) nodes

  named-joined : (nodes more : List (TreeNode (List ℕ))) → named (nodes ++ more) ≡ named nodes ++ named more
  named-joined [] more = refl
  named-joined (node ∷ nodes) more = ap (λ rest. renamed_node renaming node ∷ rest) (named-joined nodes more)

  mutual
    size-named : (tree : SyntaxTree) → size_of (with_names renaming tree) ≡ size_of tree
    size-named (Node kind token name number parts) = ap (λ size. 1 + size) (sizes-named parts)

    sizes-named : (parts : Parts (List ℕ)) → sizes_of (parts_with_names renaming parts) ≡ sizes_of parts
    sizes-named NoParts = refl
    sizes-named (Part role tree parts) = ap₂ (λ size sizes. size + sizes) (size-named tree) (sizes-named parts)

  suffix-named : (tree : SyntaxTree) → is_suffix (with_names renaming tree) ≡ is_suffix tree
  suffix-named (Node kind token name number parts) = refl

  root-named : (first : ℕ) (tree : SyntaxTree) → root_from first (with_names renaming tree) ≡ root_from first tree
  root-named first (Node kind token name number parts) = ap (λ sizes. first + sizes) (sizes-named parts)

  part_start-named : (first : ℕ) (tree : SyntaxTree) (parts : Parts (List ℕ))
      → part_start first (with_names renaming tree) (parts_with_names renaming parts) ≡ part_start first tree parts
  part_start-named first tree parts =
      ap₂ (λ suffix sizes. if suffix then first + sizes else first) (suffix-named tree) (sizes-named parts)

  following_start-named : (first : ℕ) (tree : SyntaxTree) → following_start first (with_names renaming tree) ≡ following_start first tree
  following_start-named first tree = ap₂ (λ suffix size. if suffix then first else first + size) (suffix-named tree) (size-named tree)

  children-named : (first : ℕ) (parts : Parts (List ℕ)) → children_from first (parts_with_names renaming parts) ≡ children_from first parts
  children-named first NoParts = refl
  children-named first (Part role tree parts) =
      ap₂ (λ root children. (root, role_tag role) ∷ children)
      (root-named (part_start first (with_names renaming tree) (parts_with_names renaming parts)) tree
      ∙ ap (λ start. root_from start tree) (part_start-named first tree parts))
      (children-named (following_start first (with_names renaming tree)) parts
      ∙ ap (λ start. children_from start parts) (following_start-named first tree))

  ordered-named : (suffix : Bool) (own following : List (TreeNode (List ℕ)))
      → named (if suffix then following ++ own else own ++ following) ≡ (if suffix then named following ++ named own else named own ++ named following)
  ordered-named true own following = named-joined following own
  ordered-named false own following = named-joined own following

  mutual
    pub nodes-named : (first : ℕ) (tree : SyntaxTree) → named (nodes_from first tree) ≡ nodes_from first (with_names renaming tree)
    nodes-named first (Node kind token name number parts) =
        named-joined (part_nodes_from first parts)
        (record { kind = kind; token = token; name = name; number = number; children = children_from first parts } ∷ [])
        ∙ ap₂ (λ nodes children. nodes ++ record { kind = kind; token = token; name = renaming name; number = number; children = children } ∷ [])
        (part_nodes-named first parts) (sym (children-named first parts))

    part_nodes-named : (first : ℕ) (parts : Parts (List ℕ)) → named (part_nodes_from first parts) ≡ part_nodes_from first (parts_with_names renaming parts)
    part_nodes-named first NoParts = refl
    part_nodes-named first (Part role tree parts) =
        ordered-named (is_suffix tree) (nodes_from (part_start first tree parts) tree) (part_nodes_from (following_start first tree) parts)
        ∙ ap (λ suffix. if suffix then named (part_nodes_from (following_start first tree) parts) ++ named (nodes_from (part_start first tree parts) tree)
        else named (nodes_from (part_start first tree parts) tree) ++ named (part_nodes_from (following_start first tree) parts)) (sym (suffix-named tree))
        ∙ ap₂ (λ own following. in_order (with_names renaming tree) own following)
        (nodes-named (part_start first tree parts) tree ∙ ap (λ start. nodes_from start (with_names renaming tree)) (sym (part_start-named first tree parts)))
        (part_nodes-named (following_start first tree) parts ∙ ap (λ start. part_nodes_from start (parts_with_names renaming parts)) (sym (following_start-named first tree)))
