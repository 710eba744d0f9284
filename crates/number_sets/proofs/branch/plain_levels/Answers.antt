use Rattle.number_sets.proofs.PlainLemmas.{bits_of-none}
use Rattle.number_sets.proofs.branch.plain_levels.Goals as goal

pub returns-then-set-eq-EMPTY : goal.returns-then-set-eq-EMPTY
returns-then-set-eq-EMPTY c = bits_of-none c.args.set c.if-set-eq-EMPTY.true
