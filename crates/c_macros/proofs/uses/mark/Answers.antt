use Rattle.std.proofs.Common.{arith}
use Rattle.c_macros.proofs.UseLemmas.{after_mark, after_none}
use Rattle.c_macros.proofs.uses.mark.Goals as goal

pub returns-then-index-len : goal.returns-then-index-len
returns-then-index-len c =
    after_mark c.args.uses.now.items c.args.parameter c.args.apart c.index.result.now c.with_use.result (omega (arith, c.if-index-len.true, c.len.ensures)) c.index.ensures c.with_use.ensures

pub returns-else-index-len : goal.returns-else-index-len
returns-else-index-len c = after_none c.args.uses.now.items c.args.parameter c.args.apart (omega (arith, c.if-index-len.false, c.len.ensures))
