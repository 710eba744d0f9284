use Rattle.c_tokens.specs.Remaining.{remaining_at}
use Rattle.c_tokens.proofs.cursor.Cursor.new.Goals as goal

pub returns-clause-all : goal.returns-clause-all
unfolding remaining_at
returns-clause-all c = c.over_splices.ensures.same
