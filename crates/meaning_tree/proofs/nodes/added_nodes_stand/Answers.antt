use Rattle.meaning_tree.proofs.Standing.{StandsFor-added, StandFor-push}
use Rattle.meaning_tree.proofs.nodes.added_nodes_stand.Goals as goal

pub returns-clause-node : goal.returns-clause-node
returns-clause-node g c = StandsFor-added

pub returns-clause-child : goal.returns-clause-child
returns-clause-child g c = StandFor-push
