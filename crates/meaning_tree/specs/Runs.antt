-- Runs of a list of nodes: what a list has where its nodes were added tree by tree, each behind its parts.
use Rattle.std.specs.Prelude.{ℕ, ◌+◌, List, [], ◌∷◌, ◌++◌}
use Rattle.meaning_tree.specs.Nodes.{TreeNode, NodeList, HasNode}

mutual
  -- The nodes from `first` to `root` are those of the tree whose root is the last of them.
  pub data IsRun {Spelling : Type 0} (list : NodeList Spelling) : (first root : ℕ) → Type 0 where
    run : {first root : ℕ} (node : TreeNode Spelling) → HasNode list root node → AreRuns list node.children first root → IsRun list first root

  -- Those from `first` up to `end`, which isn't among them, are those of the trees of these children, one tree behind the
  -- other. Children may stand in another order than their trees.
  pub data AreRuns {Spelling : Type 0} (list : NodeList Spelling) : List (ℕ × ℕ) → (first end : ℕ) → Type 0 where
    no_runs : {first : ℕ} → AreRuns list [] first first
    last_run : {first : ℕ} (front back : List (ℕ × ℕ)) (child : ℕ × ℕ) (middle : ℕ)
        → AreRuns list (front ++ back) first middle → IsRun list middle child.0 → AreRuns list (front ++ child ∷ back) first (child.0 + 1)
