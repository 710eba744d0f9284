-- Worked examples: lists of nodes that are laid, and some that aren't.
use Rattle.std.specs.Prelude.{ℕ, List, [], ◌∷◌}
use Rattle.vocabulary.specs.declared.node_kind.NodeKind.TheVariants.{Name, Assignment}
use Rattle.meaning_tree.specs.Nodes.{TreeNode, NodeList}
use Rattle.meaning_tree.specs.Laid.{IsLaid}
use Rattle.meaning_tree.specs.examples.Trees.{node_at, assignment_nodes}

abbrev pub leaf : TreeNode (List ℕ)
leaf = node_at Name 0 [] []

abbrev pub over : List (ℕ × ℕ) → TreeNode (List ℕ)
over children = node_at Assignment 0 [] children

abbrev pub from_first : List (TreeNode (List ℕ)) → NodeList (List ℕ)
from_first nodes = record { first = 0; nodes = nodes }

pub record LaidExamples : Type 0 where
  -- `a = b ;`
  pub assignment : IsLaid assignment_nodes
  -- parts may stand in another order than their nodes
  pub turned : IsLaid (from_first (leaf ∷ leaf ∷ over ((1, 0) ∷ (0, 0) ∷ []) ∷ []))
  -- a node isn't a part twice
  pub shared : IsLaid (from_first (leaf ∷ over ((0, 0) ∷ (0, 0) ∷ []) ∷ [])) → ⊥
  -- none is left out
  pub left_out : IsLaid (from_first (leaf ∷ leaf ∷ over ((1, 0) ∷ []) ∷ [])) → ⊥
  -- the nodes of a tree stand together
  pub scattered : IsLaid (from_first (leaf ∷ leaf ∷ over ((0, 0) ∷ []) ∷ over ((1, 0) ∷ (2, 0) ∷ []) ∷ [])) → ⊥
