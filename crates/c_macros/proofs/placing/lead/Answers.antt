use Rattle.std.proofs.Common.{arith}
use Rattle.c_macros.proofs.PastingLemmas.{led_set}
use Rattle.c_macros.proofs.placing.lead.Goals as goal

pub returns-then-start-len-clause-led : goal.returns-then-start-len-clause-led
returns-then-start-len-clause-led c = λ base left split.
    led_set c.args.items.now.items base left c.args.start c.args.space c.index.result.now c.led_item.result split (omega (arith, c.if-start-len.true, c.len.ensures)) c.index.ensures c.led_item.ensures
