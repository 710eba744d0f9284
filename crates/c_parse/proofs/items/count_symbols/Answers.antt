-- One more item was counted.
use Rattle.std.proofs.Common.{arith}
use Rattle.c_parse.proofs.Waiting.{count-more}
use Rattle.c_parse.proofs.items.count_symbols.Goals as goal

pub loop-item-preserved : goal.loop-item-preserved
loop-item-preserved c =
    let before = c.loop-item.invariant.few in
    let one = c.symbol_count-count.ensures.few in
    record {
      counted = count-more c.args.items.now c.loop-item.item-index c.loop-item.count c.symbol_count-count.result _ c.loop-item.invariant.counted c.symbol_count-count.ensures.count c.loop-item-test.true;
      few = omega (arith, before, one);
    }
