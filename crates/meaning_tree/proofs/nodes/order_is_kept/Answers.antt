use Rattle.meaning_tree.proofs.Finding.{stand_before-nil, stand_before-added, stand_before-joined}
use Rattle.meaning_tree.proofs.nodes.order_is_kept.Goals as goal

pub returns-clause-nothing : goal.returns-clause-nothing
returns-clause-nothing g c = stand_before-nil

pub returns-clause-node : goal.returns-clause-node
returns-clause-node g c = stand_before-added

pub returns-clause-part : goal.returns-clause-part
returns-clause-part g c = stand_before-joined
