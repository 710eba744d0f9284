use Rattle.meaning_answer.proofs.Completions.{completion_examples}
use Rattle.meaning_answer.proofs.answers.worked_completions.Goals as goal

pub returns : goal.returns
returns c = completion_examples
