-- The children of a node stand before it.
use Rattle.std.proofs.Common.{◌≡◌, ℕ, length, [], sym, ap, ◌∙◌, arith}
use Rattle.std.specs.List.{list_all}
use Rattle.meaning_tree.specs.Nodes.{end_of}
use Rattle.parse_state.specs.Giving.{is_below}
use Rattle.parse_state.proofs.SpecifiedKinds.{children_known}
use Rattle.parse_state.proofs.own_name.declarator_in.Goals as goal

pub declarator_among-requires-clause-below : goal.declarator_among-requires-clause-below
declarator_among-requires-clause-below c =
    let (node, has, are) = c.children.ensures in
    let first = c.requires.first in
    let end : end_of c.args.unit.now ≡ length c.args.unit.now.nodes = omega (arith, first) in
    ap (list_all (is_below (end_of c.args.unit.now))) (sym are)
    ∙ ap (λ (one : ℕ). list_all (is_below one) node.children) end
    ∙ children_known [] c.args.unit.now first c.each_node_stands_for_one_tree.ensures.order c.args.parameter node has
