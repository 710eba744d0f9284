-- A node with another number.
use Rattle.std.specs.Prelude.{ℕ, zero, suc, ◌-◌, List, [], ◌∷◌}
use Rattle.meaning_tree.specs.Nodes.{TreeNode, NodeList}

module _ {Spelling : Type 0} where
  -- the nodes, of which the one at this place has another number
  abbrev pub numbered_at : List (TreeNode Spelling) → (place number : ℕ) → List (TreeNode Spelling)
  numbered_at [] place number = []
  numbered_at (node ∷ nodes) zero number = record node { number = number } ∷ nodes
  numbered_at (node ∷ nodes) (suc place) number = node ∷ numbered_at nodes place number

  -- the list, in which the node with this handle has another number
  abbrev pub with_number : NodeList Spelling → (handle number : ℕ) → NodeList Spelling
  with_number list handle number = record list { nodes = numbered_at list.nodes (handle - list.first) number }
