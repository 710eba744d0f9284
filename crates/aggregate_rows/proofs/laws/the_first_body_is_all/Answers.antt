use Rattle.aggregate_rows.proofs.RowLemmas.{first_body_is_all}
use Rattle.aggregate_rows.proofs.laws.the_first_body_is_all.Goals as goal

pub returns : goal.returns
returns c = first_body_is_all
