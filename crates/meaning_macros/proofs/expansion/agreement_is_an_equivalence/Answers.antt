use Rattle.meaning_macros.proofs.Agreeing.{agree-equivalence}
use Rattle.meaning_macros.proofs.expansion.agreement_is_an_equivalence.Goals as goal

pub returns : goal.returns
returns c = agree-equivalence
