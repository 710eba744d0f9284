-- The failure of one token more.
use Rattle.unit_names.proofs.UnitLemmas.{failures-next}
use Rattle.unit_names.proofs.unit.named_failures.Goals as goal

pub loop-index-preserved : goal.loop-index-preserved
loop-index-preserved c = λ others are. let pushed = c.in_ok-push.ensures.items in
    failures-next c.args.failures.now c.loop-index.list.items c.push.new.self.items c.args.tokens.now others c.loop-index.index _ c.requires c.loop-index-test.true
    pushed are (c.loop-index.invariant others are)
