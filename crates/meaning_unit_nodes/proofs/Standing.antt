-- Where the nodes of a tree stand in a list, they stand for it, and are one run.
use Rattle.std.proofs.Common.{◌≡◌, ℕ, ◌+◌, Bool, true, false, List, [], ◌∷◌, ◌++◌, length, if◌then◌else◌, refl, subst, ◌-◌, ◌<◌, ◌∙◌, arith}
use Rattle.vocabulary.specs.declared.role.Role.{Role}
use Rattle.vocabulary.specs.declared.role.Role.TheVariants.{Evaluated, Condition, TypePart, Unevaluated}
use Rattle.vocabulary.specs.Roles.{role_of, role_tag}
use Rattle.meaning_tree.specs.Trees.{SyntaxTree, Node, Parts, NoParts, Part}
use Rattle.meaning_tree.specs.Nodes.{TreeNode, NodeList, end_of, StandsFor, StandFor, IsTreeOf}
use Rattle.meaning_tree.specs.Laid.{size_of, sizes_of, IsLaid}
use Rattle.meaning_tree.specs.Runs.{IsRun, AreRuns, run, no_runs}
use Rattle.meaning_tree.proofs.Lying.{run_is_laid}
use Rattle.meaning_tree.proofs.Runs.{run-alone, runs-behind, runs-before}
use Rattle.meaning_unit_nodes.specs.Written.{is_suffix, root_from, children_from, nodes_from, part_nodes_from, nodes_in}
use Rattle.meaning_unit_nodes.proofs.Placed.{ArePlaced, placed-all, placed-front, placed-back, placed-last}
use Rattle.meaning_unit_nodes.proofs.Sizes.{nodes-size, parts-size}

pub tag_kept : (role : Role) → role ≡ role_of (role_tag role)
tag_kept Evaluated = refl
tag_kept Condition = refl
tag_kept TypePart = refl
tag_kept Unevaluated = refl

-- a root is the last of its tree's nodes
pub root_last : (first : ℕ) (tree : SyntaxTree) → root_from first tree + 1 ≡ first + size_of tree
root_last first (Node kind token name number parts) = omega arith

-- What the nodes of a part and of those that follow it have, in either order
module _ (list : NodeList (List ℕ)) where
  abbrev Own : SyntaxTree → Type 0
  Own tree = (start : ℕ) → ArePlaced list start (nodes_from start tree) → StandsFor list (root_from start tree) tree

  abbrev Following : Parts (List ℕ) → Type 0
  Following parts = (start : ℕ) → ArePlaced list start (part_nodes_from start parts) → StandFor list (children_from start parts) parts

  -- what stands behind as many nodes as these
  behind : (first size : ℕ) (nodes more : List (TreeNode (List ℕ))) → length nodes ≡ size → ArePlaced list first (nodes ++ more) → ArePlaced list (first + size) more
  behind first size nodes more long placed = subst (λ (many : ℕ). ArePlaced list (first + many) more) long (placed-back list first nodes more placed)

  stand-by : (suffix : Bool) (first : ℕ) (role : Role) (tree : SyntaxTree) (parts : Parts (List ℕ)) → Own tree → Following parts
      → ArePlaced list first
      (if suffix then part_nodes_from (if suffix then first else first + size_of tree) parts ++ nodes_from (if suffix then first + sizes_of parts else first) tree
      else nodes_from (if suffix then first + sizes_of parts else first) tree ++ part_nodes_from (if suffix then first else first + size_of tree) parts)
      → StandFor list
      ((root_from (if suffix then first + sizes_of parts else first) tree, role_tag role) ∷ children_from (if suffix then first else first + size_of tree) parts)
      (Part role tree parts)
  stand-by true first role tree parts own following placed =
      let front = placed-front list first (part_nodes_from first parts) (nodes_from (first + sizes_of parts) tree) placed in
      let back = behind first (sizes_of parts) (part_nodes_from first parts) (nodes_from (first + sizes_of parts) tree) (parts-size first parts) placed in
      (tag_kept role, own (first + sizes_of parts) back, following first front)
  stand-by false first role tree parts own following placed =
      let front = placed-front list first (nodes_from first tree) (part_nodes_from (first + size_of tree) parts) placed in
      let back = behind first (size_of tree) (nodes_from first tree) (part_nodes_from (first + size_of tree) parts) (nodes-size first tree) placed in
      (tag_kept role, own first front, following (first + size_of tree) back)

  mutual
    pub placed_stands : (first : ℕ) (tree : SyntaxTree) → ArePlaced list first (nodes_from first tree) → StandsFor list (root_from first tree) tree
    placed_stands first (Node kind token name number parts) placed =
        let own : TreeNode (List ℕ) = record { kind = kind; token = token; name = name; number = number; children = children_from first parts } in
        let back = behind first (sizes_of parts) (part_nodes_from first parts) (own ∷ []) (parts-size first parts) placed in (
          children_from first parts,
          placed-last list (first + sizes_of parts) own back,
          placed_stand first parts (placed-front list first (part_nodes_from first parts) (own ∷ []) placed),
        )

    placed_stand : (first : ℕ) (parts : Parts (List ℕ)) → ArePlaced list first (part_nodes_from first parts) → StandFor list (children_from first parts) parts
    placed_stand first NoParts placed = tt
    placed_stand first (Part role tree parts) placed =
        stand-by (is_suffix tree) first role tree parts (λ start. placed_stands start tree) (λ start. placed_stand start parts) placed

  -- Runs

  abbrev OwnRun : SyntaxTree → Type 0
  OwnRun tree = (start : ℕ) → ArePlaced list start (nodes_from start tree) → IsRun list start (root_from start tree)

  abbrev FollowingRuns : Parts (List ℕ) → Type 0
  FollowingRuns parts = (start : ℕ) → ArePlaced list start (part_nodes_from start parts) → AreRuns list (children_from start parts) start (start + sizes_of parts)

  -- the run of one part, which ends where the next one begins
  run-one : (start end : ℕ) (role : Role) (tree : SyntaxTree) → start + size_of tree ≡ end → IsRun list start (root_from start tree)
      → AreRuns list ((root_from start tree, role_tag role) ∷ []) start end
  run-one start end role tree ends own =
      subst (λ (next : ℕ). AreRuns list ((root_from start tree, role_tag role) ∷ []) start next) (root_last start tree ∙ ends)
      (run-alone list (root_from start tree, role_tag role) own)

  runs-by : (suffix : Bool) (first : ℕ) (role : Role) (tree : SyntaxTree) (parts : Parts (List ℕ)) → OwnRun tree → FollowingRuns parts
      → ArePlaced list first
      (if suffix then part_nodes_from (if suffix then first else first + size_of tree) parts ++ nodes_from (if suffix then first + sizes_of parts else first) tree
      else nodes_from (if suffix then first + sizes_of parts else first) tree ++ part_nodes_from (if suffix then first else first + size_of tree) parts)
      → AreRuns list
      ((root_from (if suffix then first + sizes_of parts else first) tree, role_tag role) ∷ children_from (if suffix then first else first + size_of tree) parts)
      first (first + (size_of tree + sizes_of parts))
  runs-by true first role tree parts own following placed =
      let front = placed-front list first (part_nodes_from first parts) (nodes_from (first + sizes_of parts) tree) placed in
      let back = behind first (sizes_of parts) (part_nodes_from first parts) (nodes_from (first + sizes_of parts) tree) (parts-size first parts) placed in
      runs-before list (children_from first parts) (following first front)
      (run-one (first + sizes_of parts) (first + (size_of tree + sizes_of parts)) role tree (omega arith) (own (first + sizes_of parts) back))
  runs-by false first role tree parts own following placed =
      let front = placed-front list first (nodes_from first tree) (part_nodes_from (first + size_of tree) parts) placed in
      let back = behind first (size_of tree) (nodes_from first tree) (part_nodes_from (first + size_of tree) parts) (nodes-size first tree) placed in
      runs-behind list ((root_from first tree, role_tag role) ∷ []) (run-one first (first + size_of tree) role tree refl (own first front))
      (subst (λ (end : ℕ). AreRuns list (children_from (first + size_of tree) parts) (first + size_of tree) end) (omega arith) (following (first + size_of tree) back))

  mutual
    pub placed_run : (first : ℕ) (tree : SyntaxTree) → ArePlaced list first (nodes_from first tree) → IsRun list first (root_from first tree)
    placed_run first (Node kind token name number parts) placed =
        let own : TreeNode (List ℕ) = record { kind = kind; token = token; name = name; number = number; children = children_from first parts } in
        let back = behind first (sizes_of parts) (part_nodes_from first parts) (own ∷ []) (parts-size first parts) placed in
        run own (placed-last list (first + sizes_of parts) own back)
        (placed_runs first parts (placed-front list first (part_nodes_from first parts) (own ∷ []) placed))

    placed_runs : (first : ℕ) (parts : Parts (List ℕ)) → ArePlaced list first (part_nodes_from first parts)
        → AreRuns list (children_from first parts) first (first + sizes_of parts)
    placed_runs first NoParts placed = subst (λ (end : ℕ). AreRuns list [] first end) (omega arith) (no_runs {first = first})
    placed_runs first (Part role tree parts) placed =
        runs-by (is_suffix tree) first role tree parts (λ start. placed_run start tree) (λ start. placed_runs start parts) placed

-- The nodes of a tree by themselves

abbrev pub listed : SyntaxTree → NodeList (List ℕ)
listed tree = record { first = 0; nodes = nodes_in tree }

root_ends : (tree : SyntaxTree) → end_of (listed tree) ≡ root_from 0 tree + 1
root_ends tree = let last = root_last 0 tree in omega (arith, last, nodes-size 0 tree)

some_node : (tree : SyntaxTree) → 0 < size_of tree
some_node (Node kind token name number parts) = omega arith

pub nodes_stand : (tree : SyntaxTree) → IsTreeOf (listed tree) tree
nodes_stand tree =
    let root = root_last 0 tree in
    let last : root_from 0 tree ≡ end_of (listed tree) - 1 = omega (arith, root, nodes-size 0 tree) in
    (omega (arith, some_node tree, nodes-size 0 tree), subst (λ (handle : ℕ). StandsFor (listed tree) handle tree) last (placed_stands (listed tree) 0 tree (placed-all (listed tree))))

pub nodes_are_laid : (tree : SyntaxTree) → IsLaid (listed tree)
nodes_are_laid tree = run_is_laid (listed tree) (root_from 0 tree) (root_ends tree) (placed_run (listed tree) 0 tree (placed-all (listed tree)))
