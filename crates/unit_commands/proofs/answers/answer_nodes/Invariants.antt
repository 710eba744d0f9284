-- The nodes before the next one are answered.
use Rattle.decl_judge.specs.Units.{nodes_of}
use Rattle.node_surroundings.specs.Seen.{surroundings_seen}
use Rattle.unit_commands.proofs.AnswerLemmas.{AreAnswered}
use Rattle.unit_commands.proofs.answers.answer_nodes.Given as goal

abbrev pub invariant-loop-handle : goal.invariant-loop-handle
invariant-loop-handle l = AreAnswered (nodes_of l.unit) (surroundings_seen l.surroundings) l.handle l.known l.answers
