use Rattle.meaning_judgements.proofs.JudgementLemmas.{judgements_are_unique, judgements_exist}
use Rattle.meaning_judgements.proofs.judgements.each_unit_has_one_whole_judgement.Goals as goal

pub returns-clause-exist : goal.returns-clause-exist
returns-clause-exist c = judgements_exist

pub returns-clause-unique : goal.returns-clause-unique
returns-clause-unique c = judgements_are_unique
