use Rattle.std.proofs.Common.{◌∙◌}
use Rattle.statement_judge.proofs.nesting.Nesting.above.Goals as goal

pub returns : goal.returns
returns c = λ nodes surroundings is. c.at.ensures ∙ is.above c.args.handle
