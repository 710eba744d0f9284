use Rattle.c_macros.proofs.ParameterLemmas.{one_more}
use Rattle.c_macros.proofs.parameters.Parameters.new.Goals as goal

pub loop-name-preserved : goal.loop-name-preserved
loop-name-preserved c =
    one_more c.loop-name.set.keys c.args.names.now c.loop-name.name-index _ _ c.loop-name-test.true c.loop-name.invariant c.requires c.in_ok-insert.ensures.keys
