-- The nodes before the next one have told their names.
use Rattle.std.proofs.Common.{◌≡◌}
use Rattle.decl_judge.specs.Units.{nodes_of}
use Rattle.node_surroundings.specs.Seen.{surroundings_seen}
use Rattle.node_judge.specs.NamedTypes.{names_told, renamed}
use Rattle.node_judge.proofs.named_types.name_types.Given as goal

abbrev pub invariant-loop-handle : goal.invariant-loop-handle
invariant-loop-handle l = l.types ≡ renamed l.fn.types (names_told (nodes_of l.unit) (surroundings_seen l.surroundings) l.handle)
