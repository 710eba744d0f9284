use Rattle.meaning_macros.proofs.PlainTokens.{expansion-plain}
use Rattle.meaning_macros.proofs.expansion.plain_tokens_stay.Goals as goal

pub returns : goal.returns
returns c = expansion-plain
