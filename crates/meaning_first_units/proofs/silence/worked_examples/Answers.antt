use Rattle.meaning_first_units.proofs.Worked.{unit_examples}
use Rattle.meaning_first_units.proofs.silence.worked_examples.Goals as goal

pub returns : goal.returns
returns c = unit_examples
