use Rattle.meaning_first_units.proofs.Whole.{silence_is_handed_over}
use Rattle.meaning_first_units.proofs.silence.silence_is_handed_over.Goals as goal

pub returns : goal.returns
returns c = silence_is_handed_over
