-- Both are lemmas of tables.
use Rattle.whole_rows.proofs.ConstLemmas.{const_aggregates_begin, const_aggregates_stay}
use Rattle.whole_rows.proofs.laws.const_aggregates_are_known.Goals as goal

pub returns-clause-begin : goal.returns-clause-begin
returns-clause-begin c = const_aggregates_begin

pub returns-clause-stay : goal.returns-clause-stay
returns-clause-stay c = const_aggregates_stay
