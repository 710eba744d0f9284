-- The facts that are read are the node's, by the outlines of types.
use Rattle.std.proofs.Common.{◌≡◌, sym, ap, ◌∙◌}
use Rattle.c_tree.specs.Seen.{node_of}
use Rattle.meaning_constants.specs.Nodes.{node_constant}
use Rattle.const_fold.specs.Known.{folded_answer, constant_of_node, node_facts}
use Rattle.const_fold.specs.Measured.{measured}
use Rattle.const_fold.specs.Seen.{facts_seen}
use Rattle.const_fold.proofs.OutlineLemmas.{node_constant-outlined}
use Rattle.const_fold.proofs.folding.fold_measured.Goals as goal

pub returns : goal.returns
returns c =
    let bytes = c.args.bytes in
    let asked : c.facts_of.result.bytes ≡ bytes = ap (λ facts. facts.offset) c.facts_of.ensures in
    c.answer_of.ensures
    ∙ ap folded_answer
    (c.constant_of.ensures ∙ ap (λ b. node_constant (measured b) (facts_seen c.facts_of.result)) asked ∙ ap (node_constant (measured bytes)) c.facts_of.ensures
    ∙ node_constant-outlined bytes (node_facts c.args.unit.now c.args.types.now c.args.nodes.now bytes (node_of c.node.result.now))
    ∙ sym (ap (constant_of_node c.args.unit.now c.args.types.now c.args.nodes.now bytes) c.node.ensures.1))
