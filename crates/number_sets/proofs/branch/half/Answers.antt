use Rattle.std.proofs.Common.{arith}
use Rattle.std.proofs.Math.Pow.{pow-lt}
use Rattle.number_sets.proofs.branch.half.Goals as goal

pub returns : goal.returns
returns c = omega (arith, pow-lt {i = c.args.bit} {j = 32} (omega (arith, c.requires)))
