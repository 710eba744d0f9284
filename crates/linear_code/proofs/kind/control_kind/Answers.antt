-- A node that is there, or none.
use Rattle.std.proofs.Common.{◌<◌, ◌^◌, List, ℕ, ap, sym, subst, ◌∙◌, arith}
use Rattle.std.proofs.lemmas.List.{length-map}
use Rattle.c_tree.specs.Seen.{node_of}
use Rattle.decl_judge.proofs.NodeLemmas.{named_at}
use Rattle.decl_judge.specs.Units.{named_node}
use Rattle.meaning_tree.specs.Nodes.{TreeNode}
use Rattle.meaning_control.specs.Nodes.{control_kind, controls_of}
use Rattle.node_facts.specs.Facts.{name_seen}
use Rattle.control_cells.specs.Seen.{kind_seen}
use Rattle.linear_code.specs.Known.{judged_unit}
use Rattle.linear_code.proofs.ControlLemmas.{kind-is, no-kind-is}
use Rattle.linear_code.proofs.kind.control_kind.Goals as goal

pub kind_of_node-requires-clause-node : goal.kind_of_node-requires-clause-node
kind_of_node-requires-clause-node g c = named_at c.args.unit.now c.args.handle (node_of c.node.result.now) c.requires.whole c.node.ensures

pub kind_of_node-requires-clause-token : goal.kind_of_node-requires-clause-token
kind_of_node-requires-clause-token g c =
    λ is.
    let same = named_at c.args.unit.now c.args.handle (node_of c.node.result.now) c.requires.whole c.node.ensures in
    subst (λ (node : TreeNode (List ℕ)). node.number < 2 ^ 32) (sym same)
    (c.requires.tokens c.args.handle (ap (λ (node : TreeNode (List ℕ)). node.kind) (sym same) ∙ is))

pub returns-then-handle-len : goal.returns-then-handle-len
returns-then-handle-len g c =
    sym (no-kind-is c.args.unit.now (g.J.ControlFacts.known c.args.facts.now) c.requires.whole c.each_node_stands_for_one_tree.ensures.order c.args.handle c.args.is_tested
    (omega (arith, c.requires.whole, c.if-handle-len.true, c.len.ensures.value, length-map c.args.unit.now.nodes named_node)))

pub returns : goal.returns
returns g c =
    let known = g.J.ControlFacts.known c.args.facts.now in
    let judged = judged_unit c.args.unit.now known in
    let same = named_at c.args.unit.now c.args.handle (node_of c.node.result.now) c.requires.whole c.node.ensures in
    ap (λ (node : TreeNode (List ℕ)). kind_seen name_seen node.token c.kind_of_node.result) (sym same)
    ∙ c.kind_of_node.ensures
    ∙ ap (λ (node : TreeNode (List ℕ)). control_kind judged (controls_of judged c.args.handle) c.args.handle c.args.is_tested node.kind) same
    ∙ sym (kind-is c.args.unit.now known c.requires.whole c.each_node_stands_for_one_tree.ensures.order c.args.handle c.args.is_tested
    (omega (arith, c.requires.whole, c.if-handle-len.false, c.len.ensures.value, length-map c.args.unit.now.nodes named_node)))
