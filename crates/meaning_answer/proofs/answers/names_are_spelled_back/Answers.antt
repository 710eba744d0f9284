use Rattle.meaning_answer.proofs.Spellings.{names_are_spelled_back}
use Rattle.meaning_answer.proofs.answers.names_are_spelled_back.Goals as goal

pub returns : goal.returns
returns c = names_are_spelled_back
