-- Both are lemmas of walks.
use Rattle.member_rows.proofs.WalkLemmas.{walks_end, walks_go_on}
use Rattle.member_rows.proofs.laws.walks_go_on.Goals as goal

pub returns-clause-on : goal.returns-clause-on
returns-clause-on c = walks_go_on

pub returns-clause-end : goal.returns-clause-end
returns-clause-end c = walks_end
