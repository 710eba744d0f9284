use Rattle.meaning_outside.proofs.Maps.{some_map_agrees}
use Rattle.meaning_outside.proofs.loads.loads_of_each_path_once_agree.Goals as goal

pub returns : goal.returns
returns c = some_map_agrees
