use Rattle.meaning_answer.proofs.Balance.{clean_checks_are_balanced}
use Rattle.meaning_answer.proofs.answers.clean_checks_are_balanced.Goals as goal

pub returns : goal.returns
returns c = clean_checks_are_balanced
