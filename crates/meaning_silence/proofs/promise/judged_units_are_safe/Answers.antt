use Rattle.meaning_silence.proofs.Silence.{judged_units_are_safe, untold_units_are_safe}
use Rattle.meaning_silence.proofs.promise.judged_units_are_safe.Goals as goal

pub returns-clause-listing : goal.returns-clause-listing
returns-clause-listing c = judged_units_are_safe

pub returns-clause-text : goal.returns-clause-text
returns-clause-text c = untold_units_are_safe
