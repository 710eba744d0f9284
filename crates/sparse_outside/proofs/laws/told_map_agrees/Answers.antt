use Rattle.sparse_outside.proofs.Loads.{agrees}
use Rattle.sparse_outside.proofs.laws.told_map_agrees.Goals as goal

pub returns : goal.returns
returns c = agrees
