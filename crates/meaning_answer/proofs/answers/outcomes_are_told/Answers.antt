use Rattle.meaning_answer.proofs.Told.{outcomes_are_told}
use Rattle.meaning_answer.proofs.answers.outcomes_are_told.Goals as goal

pub returns : goal.returns
returns c = outcomes_are_told
