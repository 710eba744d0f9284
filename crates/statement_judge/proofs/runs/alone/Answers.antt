-- One node more.
use Rattle.statement_judge.proofs.RunLemmas.{alone-more, alone-none}
use Rattle.statement_judge.proofs.runs.alone.Goals as goal

pub loop-handle-init : goal.loop-handle-init
loop-handle-init c = alone-none c.new-firsts.result.items c.new-firsts.ensures.items

pub loop-handle-preserved : goal.loop-handle-preserved
loop-handle-preserved c =
    alone-more c.loop-handle.handle c.loop-handle.firsts.items c.push.new.self.items c.in_ok-push.ensures.items c.loop-handle.invariant
