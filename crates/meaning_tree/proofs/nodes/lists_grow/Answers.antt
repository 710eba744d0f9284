use Rattle.meaning_tree.proofs.Finding.{Grows-refl, Grows-trans, Grows-added, Grows-joined, end_of-added, end_of-joined}
use Rattle.meaning_tree.proofs.nodes.lists_grow.Goals as goal

pub returns-clause-by_nothing : goal.returns-clause-by_nothing
returns-clause-by_nothing g c = Grows-refl

pub returns-clause-in_turn : goal.returns-clause-in_turn
returns-clause-in_turn g c = Grows-trans

pub returns-clause-by_node : goal.returns-clause-by_node
returns-clause-by_node g c list node = (Grows-added list node, end_of-added list node)

pub returns-clause-by_part : goal.returns-clause-by_part
returns-clause-by_part g c list part begins = (Grows-joined list part, end_of-joined list part begins)
