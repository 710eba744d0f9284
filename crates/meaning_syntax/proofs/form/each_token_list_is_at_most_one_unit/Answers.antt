-- The four laws are lemmas over plain lists.
use Rattle.meaning_syntax.proofs.UnitReading.{IsSpelled-read_items, read_items-IsSpelled, IsUnit-read_unit, read_unit-IsUnit}
use Rattle.meaning_syntax.proofs.form.each_token_list_is_at_most_one_unit.Goals as goal

pub returns-clause-items : goal.returns-clause-items
returns-clause-items c = IsSpelled-read_items

pub returns-clause-items_again : goal.returns-clause-items_again
returns-clause-items_again c = read_items-IsSpelled

pub returns-clause-unit : goal.returns-clause-unit
returns-clause-unit c = IsUnit-read_unit

pub returns-clause-unit_again : goal.returns-clause-unit_again
returns-clause-unit_again c = read_unit-IsUnit
