-- What is kept is kept of the nodes from the next one on.
use Rattle.std.proofs.Common.{nat_eq}
use Rattle.indexmap.specs.IndexMap.{get}
use Rattle.decl_judge.specs.Units.{nodes_of}
use Rattle.node_surroundings.specs.Seen.{surroundings_seen}
use Rattle.member_names.specs.Kept.{KeepsFrom}
use Rattle.member_names.proofs.homes.OutermostHomes.of.Given as goal

abbrev pub invariant-loop-handle : goal.invariant-loop-handle
invariant-loop-handle l = KeepsFrom (nodes_of l.unit) (surroundings_seen l.surroundings) l.handle (get nat_eq l.homes.kept)
