use Rattle.meaning_preprocessing.proofs.Uniqueness.{units_exist, units_are_unique, units_are_within_the_limit}
use Rattle.meaning_preprocessing.proofs.units.each_path_has_one_unit.Goals as goal

pub returns-clause-exist : goal.returns-clause-exist
returns-clause-exist c = units_exist

pub returns-clause-unique : goal.returns-clause-unique
returns-clause-unique c = units_are_unique

pub returns-clause-limit : goal.returns-clause-limit
returns-clause-limit c = units_are_within_the_limit
