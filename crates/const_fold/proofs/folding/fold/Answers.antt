-- The bytes that a node asks for are enough.
use Rattle.std.proofs.Common.{sym, ap, ◌∙◌}
use Rattle.c_tree.specs.Seen.{node_of}
use Rattle.meaning_constants.specs.Nodes.{node_constant}
use Rattle.const_fold.specs.Known.{constant_of_node, folded_answer, node_facts}
use Rattle.const_fold.specs.Measured.{measured}
use Rattle.const_fold.specs.Offsets.{offset_of_node}
use Rattle.const_fold.specs.Sized.{sized_constant, sizes_in}
use Rattle.const_fold.proofs.MeasureLemmas.{measuring_is_enough}
use Rattle.const_fold.proofs.folding.fold.Goals as goal

pub returns : goal.returns
returns c =
    let unit = c.args.unit.now in
    let table = c.args.types.now in
    let kept = c.args.nodes.now in
    let node = node_of c.node.result.now in
    c.fold_measured.ensures
    ∙ ap folded_answer
    (ap (constant_of_node unit table kept c.bytes_of-bytes.result) c.node.ensures.1
    ∙ ap (λ bytes. node_constant (measured bytes) (node_facts unit table kept bytes node)) c.bytes_of-bytes.ensures
    ∙ measuring_is_enough (sizes_in table) (node_facts unit table kept (offset_of_node unit table kept node) node)
    ∙ sym (ap (sized_constant unit table kept) c.node.ensures.1))
