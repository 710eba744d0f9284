-- Up to here no two that stand side by side are in conflict.
use Rattle.std.proofs.Common.{ℕ, ◌+◌, ◌<◌, get_or}
use Rattle.context_walk.specs.declared.different.Met.{Met}
use Rattle.context_walk.specs.Met.{IsConflict}
use Rattle.context_walk.proofs.different.least_conflict.Given as goal

abbrev pub invariant-loop-i : goal.invariant-loop-i
invariant-loop-i l = (k : ℕ) (d : Met) → k + 1 < l.i → IsConflict (get_or l.met k d) (get_or l.met (k + 1) d) → ⊥
