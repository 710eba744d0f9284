use Rattle.meaning_initialized.proofs.Uniqueness.{found_rows_are_rows, rows_are_unique, rows_exist}
use Rattle.meaning_initialized.proofs.initialized.each_node_has_one_row.Goals as goal

pub returns-clause-unique : goal.returns-clause-unique
returns-clause-unique c = rows_are_unique

pub returns-clause-exist : goal.returns-clause-exist
returns-clause-exist c = rows_exist

pub returns-clause-found : goal.returns-clause-found
returns-clause-found c = found_rows_are_rows
