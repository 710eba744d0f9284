use Rattle.meaning_preprocessing.proofs.PlainFiles.{plain_files_stay}
use Rattle.meaning_preprocessing.proofs.units.plain_files_stay.Goals as goal

pub returns : goal.returns
returns c = plain_files_stay
