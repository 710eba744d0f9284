use Rattle.meaning_conditions.proofs.Valuing.{answers_exist, answers_are_those}
use Rattle.meaning_conditions.proofs.conditions.each_list_has_one_answer.Goals as goal

pub returns-clause-exist : goal.returns-clause-exist
returns-clause-exist c = answers_exist

pub returns-clause-unique : goal.returns-clause-unique
returns-clause-unique c = answers_are_those
