-- An index is read of few children.
use Rattle.std.proofs.Common.{sym, ap, ◌∙◌}
use Rattle.c_tree.specs.Seen.{node_of}
use Rattle.meaning_constants.specs.Sizes.{ElementAt}
use Rattle.const_fold.specs.Offsets.{designator_by, index_few}
use Rattle.const_fold.proofs.OffsetLemmas.{index-told}
use Rattle.const_fold.proofs.offset.designator_of.Goals as goal

pub returns-in-IndexDesignator : goal.returns-in-IndexDesignator
returns-in-IndexDesignator c =
    ap ElementAt (c.index_of.ensures ∙ ap (index_few c.args.types.now c.args.nodes.now) c.children_of.ensures ∙ index-told c.args.types.now c.args.nodes.now c.args.node.now.children)
    ∙ sym (ap (λ kind. designator_by c.args.types.now c.args.nodes.now kind (node_of c.args.node.now)) c.in-IndexDesignator.is)
