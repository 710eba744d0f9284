-- The nodes before the next one are judged.
use Rattle.decl_judge.specs.Units.{nodes_of}
use Rattle.node_surroundings.specs.Seen.{surroundings_seen}
use Rattle.type_judge.specs.Judging.{IsPassOver}
use Rattle.type_judge.proofs.pass.Pass.judge_all.Given as goal

abbrev pub invariant-loop-handle : goal.invariant-loop-handle
invariant-loop-handle l = IsPassOver (nodes_of l.unit) (surroundings_seen l.surroundings) l.handle l.self
