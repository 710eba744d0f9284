use Rattle.unit_names.proofs.NodeLemmas.{nodes_of_tree}
use Rattle.unit_names.proofs.nodes.nodes_are_those_of_their_tree.Goals as goal

pub returns : goal.returns
returns c = nodes_of_tree
