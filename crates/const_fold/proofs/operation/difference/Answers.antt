-- A difference that wraps at 128 bits comes to the same.
use Rattle.std.proofs.Common.{arith}
use Rattle.const_fold.proofs.operation.difference.Goals as goal
use Rattle.const_fold.proofs.NumberLemmas.{wrapped-difference}

pub returns : goal.returns
returns c = grind (arith, wrapped-difference c.args.kind c.args.left c.args.right c.ranges.left c.ranges.right)
