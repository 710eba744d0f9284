use Rattle.meaning_silence.proofs.Initializing.{first_forms_initialize_nothing}
use Rattle.meaning_silence.proofs.promise.first_forms_initialize_nothing.Goals as goal

pub returns : goal.returns
returns c = first_forms_initialize_nothing
