use Rattle.meaning_macros.proofs.Cases.{expansion-is}
use Rattle.meaning_macros.proofs.expansion.expansions_are_their_cases.Goals as goal

pub returns : goal.returns
returns c = expansion-is
