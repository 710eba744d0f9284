use Rattle.initializer_levels.proofs.PathLemmas.{levels_stay}
use Rattle.initializer_levels.proofs.laws.levels_stay.Goals as goal

pub returns : goal.returns
returns c = levels_stay
