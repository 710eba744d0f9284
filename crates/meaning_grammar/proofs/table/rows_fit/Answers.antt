use Rattle.meaning_grammar.proofs.Fitting.{rows_fall, rows_are_sorted, what_is_taken_fits}
use Rattle.meaning_grammar.proofs.table.rows_fit.Goals as goal

pub returns-clause-fall : goal.returns-clause-fall
returns-clause-fall c = rows_fall

pub returns-clause-sorted : goal.returns-clause-sorted
returns-clause-sorted c = rows_are_sorted

pub returns-clause-taken : goal.returns-clause-taken
returns-clause-taken c = what_is_taken_fits
