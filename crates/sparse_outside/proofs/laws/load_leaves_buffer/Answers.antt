use Rattle.sparse_outside.proofs.Loads.{leaves}
use Rattle.sparse_outside.proofs.laws.load_leaves_buffer.Goals as goal

pub returns : goal.returns
returns c = leaves
