-- The arrays lead from the type to the inner one.
use Rattle.std.proofs.Common.{◌<◌, length}
use Rattle.c_types.specs.Levels.{IsChain}
use Rattle.c_types.proofs.rows.Rows.levels.Given as goal

abbrev pub invariant-loop-element : goal.invariant-loop-element
invariant-loop-element l =
    record {
      chain : IsChain l.self.rows.entries l.number l.arrays.items l.inner;
      known : l.inner < length l.self.rows.entries;
    }

abbrev pub decreases-loop-element : goal.decreases-loop-element
decreases-loop-element l = l.inner
