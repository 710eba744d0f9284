-- A sum that wraps at 128 bits comes to the same.
use Rattle.std.proofs.Common.{arith}
use Rattle.const_fold.proofs.operation.sum.Goals as goal
use Rattle.const_fold.proofs.NumberLemmas.{wrapped-sum}

pub returns : goal.returns
returns c = grind (arith, wrapped-sum c.args.kind c.args.left c.args.right c.ranges.left c.ranges.right)
