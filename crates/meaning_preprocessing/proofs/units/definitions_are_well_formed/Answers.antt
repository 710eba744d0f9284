use Rattle.meaning_preprocessing.proofs.WellFormedLines.{definitions_are_well_formed}
use Rattle.meaning_preprocessing.proofs.units.definitions_are_well_formed.Goals as goal

pub returns : goal.returns
returns c = definitions_are_well_formed
