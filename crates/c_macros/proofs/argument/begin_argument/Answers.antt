use Rattle.c_macros.proofs.ClosingLemmas.{noted-short}
use Rattle.c_macros.proofs.argument.begin_argument.Goals as goal

pub returns-then-not-taken-clause-closings : goal.returns-then-not-taken-clause-closings
returns-then-not-taken-clause-closings c = λ closings are. noted-short c.args.work.now.items c.truncate.new.self.items c.args.floor closings c.truncate.ensures.items are
