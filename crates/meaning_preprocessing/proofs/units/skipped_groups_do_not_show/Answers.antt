use Rattle.meaning_preprocessing.proofs.SkippedLines.{skipped_lines_do_not_show}
use Rattle.meaning_preprocessing.proofs.units.skipped_groups_do_not_show.Goals as goal

pub returns : goal.returns
returns c = skipped_lines_do_not_show
