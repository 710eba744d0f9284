use Rattle.std.proofs.Common.{◌∙◌, arith, ◌++◌}
use Rattle.c_preproc.proofs.TextLemmas.{put-ends}
use Rattle.c_preproc.proofs.state.State.put.Goals as goal

pub returns-then-is_beyond-clause-ends : goal.returns-then-is_beyond-clause-ends
returns-then-is_beyond-clause-ends c = λ names path s next holds.
    put-ends names path c.args.self.now s holds c.args.made.now.items next (omega (arith, c.is_beyond.ensures.0 c.if-is_beyond.true, c.len.ensures))
