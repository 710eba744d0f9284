-- The children of a node stand before it, and a parameter list that is found is one of the nodes.
use Rattle.std.proofs.Common.{◌≡◌, ℕ, length, [], sym, ap, ◌∙◌, arith}
use Rattle.std.specs.List.{list_all}
use Rattle.meaning_tree.specs.Nodes.{end_of}
use Rattle.parse_state.specs.Giving.{is_below}
use Rattle.parse_state.proofs.OwnNames.{list_listed}
use Rattle.parse_state.proofs.SpecifiedKinds.{children_known}
use Rattle.parse_state.proofs.own_name.own_parameter.Goals as goal

pub list_among-requires-clause-below : goal.list_among-requires-clause-below
list_among-requires-clause-below c =
    let (node, has, are) = c.children.ensures in
    let first = c.requires.first in
    let end : end_of c.args.unit.now ≡ length c.args.unit.now.nodes = omega (arith, first) in
    ap (list_all (is_below (end_of c.args.unit.now))) (sym are)
    ∙ ap (λ (one : ℕ). list_all (is_below one) node.children) end
    ∙ children_known [] c.args.unit.now first c.each_node_stands_for_one_tree.ensures.order c.args.declarator node has

pub children-requires-in-Some-clause-below : goal.children-requires-in-Some-clause-below
children-requires-in-Some-clause-below c =
    let first = c.requires.first in
    let below = list_listed c.args.unit.now first c.children.result.now c.in-Some.parameters (sym c.in-Some.ensures) in
    omega (arith, first, below)

pub parameter_among-requires-clause-below : goal.parameter_among-requires-clause-below
parameter_among-requires-clause-below c =
    let (node, has, are) = c.children-in-Some.ensures in
    let first = c.requires.first in
    let end : end_of c.args.unit.now ≡ length c.args.unit.now.nodes = omega (arith, first) in
    ap (list_all (is_below (end_of c.args.unit.now))) (sym are)
    ∙ ap (λ (one : ℕ). list_all (is_below one) node.children) end
    ∙ children_known [] c.args.unit.now first c.each_node_stands_for_one_tree.ensures.order c.in-Some.parameters node has
