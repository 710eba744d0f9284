use Rattle.std.proofs.Common.{subst}
use Rattle.c_tree.specs.Seen.{EachStandsForOneTree, IsFinished}
use Rattle.c_tree.proofs.Units.{each_stands_for_one, is_finished}
use Rattle.c_tree.proofs.unit.Unit.each_node_stands_for_one_tree.Goals as goal

pub returns-clause-trees : goal.returns-clause-trees
returns-clause-trees c = subst EachStandsForOneTree c.self.view_is (each_stands_for_one _ c.self.invariant)

pub returns-clause-finished : goal.returns-clause-finished
returns-clause-finished c = subst IsFinished c.self.view_is (is_finished _ c.self.invariant)
