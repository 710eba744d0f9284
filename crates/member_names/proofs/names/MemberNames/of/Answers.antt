use Rattle.member_names.proofs.OrderLemmas.{stand_in_order}
use Rattle.member_names.proofs.names.MemberNames.of.Goals as goal

pub in_order-requires-clause-order : goal.in_order-requires-clause-order
in_order-requires-clause-order c =
    stand_in_order c.args.unit.now c.requires.whole c.requires.laid c.each_node_stands_for_one_tree.ensures.order c.args.surroundings.now
    c.requires.surroundings
