use Rattle.meaning_silence.proofs.Rows.{judgements_are_whole, rows_are_whole, whole_judgements_are_judgements}
use Rattle.meaning_silence.proofs.promise.units_without_initializers_are_whole.Goals as goal

pub returns-clause-rows : goal.returns-clause-rows
returns-clause-rows c = rows_are_whole

pub returns-clause-judgements : goal.returns-clause-judgements
returns-clause-judgements c = judgements_are_whole

pub returns-clause-converse : goal.returns-clause-converse
returns-clause-converse c = whole_judgements_are_judgements
