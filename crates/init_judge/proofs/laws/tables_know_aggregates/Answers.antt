use Rattle.init_judge.proofs.AggregateLemmas.{tables_know_aggregates}
use Rattle.init_judge.proofs.laws.tables_know_aggregates.Goals as goal

pub returns : goal.returns
returns c = tables_know_aggregates
