-- What holds of the nodes above a node.
use Rattle.std.specs.Prelude.{◌≡◌, ℕ, List, ◌∷◌, Some, slice_get}
use Rattle.meaning_typing.specs.Units.{UnitNodes, kind_at, node_at}
use Rattle.meaning_typing.specs.Surroundings.{AreSurroundings, Surrounding}
use Rattle.meaning_typing.specs.laws.Surroundings.{IsLaidUnit}
use Rattle.meaning_statements.specs.Above.{nodes_above}

-- in a laid unit those above a part are the node whose part it is, and those above that one
abbrev pub NodesAboveComeDown : Type 0
NodesAboveComeDown =
    (nodes : UnitNodes) (surroundings : List Surrounding) → IsLaidUnit nodes → AreSurroundings nodes surroundings
    → (handle place : ℕ) (child : ℕ × ℕ) → slice_get (node_at nodes handle).children place ≡ Some child
    → nodes_above nodes surroundings child.0
    ≡ record { handle = handle; kind = kind_at nodes handle; place = place } ∷ nodes_above nodes surroundings handle
