use Rattle.statement_judge.proofs.StatementLemmas.{kept_later}
use Rattle.statement_judge.proofs.laws.more_is_known_later.Goals as goal

pub returns : goal.returns
returns c = kept_later
