use Rattle.meaning_preprocessing.proofs.ReadOnce.{files_without_includes_are_read_once}
use Rattle.meaning_preprocessing.proofs.LongerParts.{tokens_behind_the_end}
use Rattle.meaning_preprocessing.proofs.LongerFiles.{lines_behind_the_units_end}
use Rattle.meaning_preprocessing.proofs.units.lines_behind_the_end_do_not_show.Goals as goal

pub returns-clause-tokens : goal.returns-clause-tokens
returns-clause-tokens c = tokens_behind_the_end

pub returns-clause-lines : goal.returns-clause-lines
returns-clause-lines c = lines_behind_the_units_end

pub returns-clause-once : goal.returns-clause-once
returns-clause-once c = files_without_includes_are_read_once
