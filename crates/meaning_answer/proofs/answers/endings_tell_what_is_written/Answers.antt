use Rattle.meaning_answer.proofs.Written.{endings_tell, tokens_alone}
use Rattle.meaning_answer.proofs.answers.endings_tell_what_is_written.Goals as goal

pub returns-clause-tell : goal.returns-clause-tell
returns-clause-tell c = endings_tell

pub returns-clause-tokens : goal.returns-clause-tokens
returns-clause-tokens c = tokens_alone
