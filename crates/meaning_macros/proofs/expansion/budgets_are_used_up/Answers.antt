use Rattle.meaning_macros.specs.Expansion.{expansion}
use Rattle.meaning_macros.proofs.Budgets.{within-Falls}
use Rattle.meaning_macros.proofs.expansion.budgets_are_used_up.Goals as goal

pub returns : goal.returns
unfolding expansion
returns c = λ table b ts. (within-Falls b.replacements table).falls b ts
