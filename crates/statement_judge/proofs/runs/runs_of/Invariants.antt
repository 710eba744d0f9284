-- The nodes before the next one have told those that they stand in.
use Rattle.std.proofs.Common.{◌≡◌}
use Rattle.node_surroundings.specs.Seen.{surroundings_seen}
use Rattle.statement_judge.proofs.RunLemmas.{AreTold}
use Rattle.statement_judge.proofs.runs.runs_of.Given as goal

abbrev pub invariant-loop-handle : goal.invariant-loop-handle
invariant-loop-handle l = AreTold (surroundings_seen l.surroundings) l.handle l.firsts.items
