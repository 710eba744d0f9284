-- Behind the last node there is none.
use Rattle.std.proofs.Common.{sym, ap, ◌∙◌, arith}
use Rattle.const_fold.specs.Offsets.{designator_of}
use Rattle.const_fold.proofs.OffsetLemmas.{designator-past}
use Rattle.const_fold.proofs.offset.designator_at.Goals as goal

pub returns-then-handle-len : goal.returns-then-handle-len
returns-then-handle-len c = sym (designator-past c.args.unit.now c.args.types.now c.args.nodes.now c.args.handle (grind arith))

pub returns : goal.returns
returns c = c.designator_of.ensures ∙ sym (ap (designator_of c.args.types.now c.args.nodes.now) c.node.ensures.1)
