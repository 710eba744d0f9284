use Rattle.meaning_preprocessing.proofs.Numbers.{numbers_tell_paths, numbers_stay}
use Rattle.meaning_preprocessing.proofs.units.numbers_tell_paths.Goals as goal

pub returns-clause-tell : goal.returns-clause-tell
returns-clause-tell c = numbers_tell_paths

pub returns-clause-stay : goal.returns-clause-stay
returns-clause-stay c = numbers_stay
