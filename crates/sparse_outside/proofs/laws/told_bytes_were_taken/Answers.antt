use Rattle.sparse_outside.proofs.Puts.{taken}
use Rattle.sparse_outside.proofs.laws.told_bytes_were_taken.Goals as goal

pub returns : goal.returns
returns c = taken
