use Rattle.meaning_paths.proofs.WalkLemmas.{front-path}
use Rattle.meaning_paths.proofs.paths.fronts_of_paths_are_paths.Goals as goal

pub returns : goal.returns
returns g c = front-path
