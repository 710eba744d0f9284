-- Each way in which a load ends.
use Rattle.std.proofs.Common.{Some, None}
use Rattle.sparse_outside.specs.declared.files.Load.TheVariants.{Whole, Missing, TooLong, Failed, NoMemory}
use Rattle.sparse_outside.specs.Laws.{ToldMapAgrees, LoadLeavesBuffer}

pub agrees : ToldMapAgrees
agrees files path max Whole into loads = loads.0
agrees files path max Missing into loads = loads.0
agrees files path max TooLong into loads = loads.0
agrees files path max Failed into loads = tt
agrees files path max NoMemory into loads = tt

pub leaves : LoadLeavesBuffer
leaves None path max answer into loads = loads
leaves (Some files) path max Whole into loads = loads.1
leaves (Some files) path max Missing into loads = loads.1
leaves (Some files) path max TooLong into loads = loads.1
leaves (Some files) path max Failed into loads = loads
leaves (Some files) path max NoMemory into loads = loads.1
