use Rattle.std.proofs.Common.{ap, ◌∙◌, arith}
use Rattle.parse_state.specs.Giving.{is_small}
use Rattle.parse_state.proofs.Sound.{small_here}
use Rattle.parse_state.proofs.children.take_children.Goals as goal

pub put_children-requires : goal.put_children-requires
put_children-requires c = record {
  small = ap is_small c.replace-value.ensures.value
      ∙ small_here c.args.values.now.items c.loop-index.values.items c.loop-index.index c.index_mut.result.now c.requires.small c.loop-index.invariant.others (omega arith) c.index_mut.ensures.value;
}
