-- A call is what is said of the function that it names.
use Rattle.std.proofs.Common.{List, ℕ, option_map, ap, sym, ◌∙◌, arith}
use Rattle.meaning_tree.specs.Nodes.{TreeNode}
use Rattle.meaning_typing.specs.Units.{child_at}
use Rattle.meaning_control.specs.Nodes.{called, control_at, control_kind, controls_of}
use Rattle.node_facts.specs.Facts.{name_seen}
use Rattle.decl_judge.specs.Units.{nodes_of}
use Rattle.linear_code.specs.Kinds.{called_noted}
use Rattle.linear_code.specs.Known.{function_note, judged_unit, named_at}
use Rattle.linear_code.proofs.ControlLemmas.{call-within, called-is}
use Rattle.linear_code.proofs.NameLemmas.{child-before, named-over}
use Rattle.linear_code.proofs.kind.kind_of_node.Goals as goal

pub returns-in-Call : goal.returns-in-Call
returns-in-Call g c =
    let known = g.J.ControlFacts.known c.args.facts.now in
    let judged = judged_unit c.args.unit.now known in
    let nodes = nodes_of c.args.unit.now in
    let handle = c.args.handle in
    let child = child_at nodes handle 0 in
    let token = c.args.node.now.token in
    let is = ap (λ (node : TreeNode (List ℕ)). node.kind) (sym c.requires.node) ∙ c.in-Call.is in
    let within = call-within nodes handle is in
    c.called.ensures name_seen token
    ∙ ap (called_noted token c.args.is_tested) (c.named_function.ensures ∙ ap (λ at. option_map (function_note known) (named_at judged at)) c.child_at.ensures)
    ∙ called-is c.args.unit.now known token c.args.is_tested (named_at judged child)
    ∙ ap (called judged token c.args.is_tested)
    (sym (named-over judged handle child (omega (arith, within)) (child-before c.args.unit.now c.requires.whole c.each_node_stands_for_one_tree.ensures.order handle 0)))
    ∙ ap (λ (node : TreeNode (List ℕ)). called judged node.token c.args.is_tested (control_at (controls_of judged handle) child).names) c.requires.node
    ∙ ap (control_kind judged (controls_of judged handle) handle c.args.is_tested) (sym c.in-Call.is)
