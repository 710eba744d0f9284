use Rattle.c_tree.proofs.Nodes.{node_of-injective}
use Rattle.c_tree.proofs.node.nodes_are_seen_whole.Goals as goal

pub returns : goal.returns
returns c = node_of-injective
