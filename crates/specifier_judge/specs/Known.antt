-- What is handed in of the nodes that stand before.
use Rattle.std.specs.Prelude.{◌≡◌, ℕ, List, All, length}
use Rattle.meaning_typing.specs.MemberRows.{aggregates_before}
use Rattle.meaning_typing.specs.Surroundings.{Surrounding}
use Rattle.meaning_typing.specs.Units.{UnitNodes}
use Rattle.c_types.specs.Layouts.{told_in}
use Rattle.c_types.specs.Table.{TypeTable}
use Rattle.node_facts.specs.declared.fact.NodeFact.{NodeFact}
use Rattle.node_facts.specs.Facts.{IsKnownNodeFact, nodes_seen}

-- this is known of all nodes before the one with this handle, where nodes stand in this
pub record IsKnownBefore (nodes : UnitNodes) (surroundings : List Surrounding) (types : TypeTable) (facts : List NodeFact) (handle : ℕ) : Type 0 where
  pub next : length facts ≡ handle
  -- all types are of the table
  pub ids : All (IsKnownNodeFact types) facts
  -- which was told the bodies of the structures and unions among them, and no others
  pub told : told_in types ≡ (aggregates_before nodes surroundings (nodes_seen types facts)).told
