-- What holds of what the nodes of a unit stand in.
use Rattle.std.specs.Prelude.{◌≡◌, List}
use Rattle.meaning_tree.specs.Nodes.{ChildrenStandBefore}
use Rattle.meaning_tree.specs.Laid.{IsLaid}
use Rattle.meaning_typing.specs.Units.{UnitNodes, unit_list}
use Rattle.meaning_typing.specs.Surroundings.{Surrounding, AreSurroundings}
use Rattle.meaning_typing.specs.Building.{surroundings_of}

-- each node but the last is a part of one other node, once, which stands behind it
pub record IsLaidUnit (nodes : UnitNodes) : Type 0 where
  pub laid : IsLaid (unit_list nodes)
  pub ordered : ChildrenStandBefore (unit_list nodes)

-- such a unit has at most one list of surroundings
abbrev pub SurroundingsAreUnique : Type 0
SurroundingsAreUnique =
    (nodes : UnitNodes) (surroundings others : List Surrounding) → IsLaidUnit nodes
    → AreSurroundings nodes surroundings → AreSurroundings nodes others → surroundings ≡ others

-- and has one: that which is found from the last node to the first
abbrev pub SurroundingsAreFound : Type 0
SurroundingsAreFound = (nodes : UnitNodes) → IsLaidUnit nodes → AreSurroundings nodes (surroundings_of nodes)
