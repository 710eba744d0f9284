-- One row more was counted, and all that are counted are few.
use Rattle.std.proofs.Common.{◌+◌, arith}
use Rattle.c_parse.proofs.Waiting.{counted-few, counted-more}
use Rattle.c_parse.proofs.pending.all_counted.Goals as goal

pub overflow_add-symbols : goal.overflow_add-symbols
overflow_add-symbols c =
    let so_far = c.loop-index.invariant in
    let more = counted-more c.args.rows.now c.loop-index.index c.loop-index.symbols c.count_symbols-symbols.result _ so_far c.count_symbols-symbols.ensures.count c.loop-index-test.true in
    let few = counted-few c.args.rows.now (c.loop-index.index + 1) c.requires.short in
    let rows = c.requires.few in
    omega (arith, more, few, rows)

pub loop-index-preserved : goal.loop-index-preserved
loop-index-preserved c =
    counted-more c.args.rows.now c.loop-index.index c.loop-index.symbols c.count_symbols-symbols.result _ c.loop-index.invariant c.count_symbols-symbols.ensures.count c.loop-index-test.true
