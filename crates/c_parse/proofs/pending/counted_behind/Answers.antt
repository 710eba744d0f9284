-- The row was the last one that was counted.
use Rattle.std.proofs.Common.{arith}
use Rattle.c_parse.proofs.Waiting.{counted-least, counted-off}
use Rattle.c_parse.proofs.pending.counted_behind.Goals as goal

pub overflow_sub-result : goal.overflow_sub-result
overflow_sub-result c =
    let beyond = c.if-counted-left.false in
    counted-least c.args.left c.count_symbols.result c.args.row c.args.counted c.requires (omega (arith, beyond)) c.count_symbols.ensures.count

pub returns : goal.returns
returns c =
    λ rows same were.
    let beyond = c.if-counted-left.false in
    counted-off rows c.args.left c.count_symbols.result c.args.row c.args.counted same (omega (arith, beyond)) c.count_symbols.ensures.count were
