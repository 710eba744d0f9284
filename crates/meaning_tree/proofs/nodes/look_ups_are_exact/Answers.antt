use Rattle.meaning_tree.proofs.LookingUp.{node_at-exact}
use Rattle.meaning_tree.proofs.nodes.look_ups_are_exact.Goals as goal

pub returns : goal.returns
returns g c = node_at-exact
