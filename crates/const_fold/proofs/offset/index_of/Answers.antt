-- The number of the only child.
use Rattle.std.proofs.Common.{sym, ap, ◌∙◌}
use Rattle.const_fold.specs.Known.{part_at}
use Rattle.const_fold.specs.Offsets.{index_few, number_of}
use Rattle.const_fold.proofs.OffsetLemmas.{number-outlined}
use Rattle.const_fold.proofs.offset.index_of.Goals as goal

pub returns-in-One : goal.returns-in-One
returns-in-One c =
    c.number_of.ensures ∙ ap number_of c.part_at.ensures ∙ number-outlined (part_at c.args.types.now c.args.nodes.now c.in-One.child)
    ∙ sym (ap (index_few c.args.types.now c.args.nodes.now) c.in-One.is)
