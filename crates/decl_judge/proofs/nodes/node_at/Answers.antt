use Rattle.decl_judge.proofs.NodeLemmas.{named_at}
use Rattle.c_tree.specs.Seen.{node_of}
use Rattle.decl_judge.proofs.nodes.node_at.Goals as goal

pub returns-then-handle-len : goal.returns-then-handle-len
returns-then-handle-len c = named_at c.args.unit.now c.args.handle (node_of c.node.result.now) c.requires c.node.ensures
