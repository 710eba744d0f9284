use Rattle.meaning_silence.proofs.Silence.{silent_units_are_safe}
use Rattle.meaning_silence.proofs.promise.silent_units_are_safe.Goals as goal

pub returns : goal.returns
returns c = silent_units_are_safe
