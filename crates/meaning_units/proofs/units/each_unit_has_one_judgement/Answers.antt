use Rattle.meaning_units.proofs.JudgementLemmas.{judgements_are_unique, judgements_exist}
use Rattle.meaning_units.proofs.units.each_unit_has_one_judgement.Goals as goal

pub returns-clause-unique : goal.returns-clause-unique
returns-clause-unique c = judgements_are_unique

pub returns-clause-exist : goal.returns-clause-exist
returns-clause-exist c = judgements_exist
