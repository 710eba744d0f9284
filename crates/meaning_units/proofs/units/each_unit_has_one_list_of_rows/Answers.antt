use Rattle.meaning_units.proofs.RowLemmas.{rows_are_unique, rows_exist}
use Rattle.meaning_units.proofs.units.each_unit_has_one_list_of_rows.Goals as goal

pub returns-clause-unique : goal.returns-clause-unique
returns-clause-unique c = rows_are_unique

pub returns-clause-exist : goal.returns-clause-exist
returns-clause-exist c = rows_exist
