-- The entry is the last of some first entries that has the name, and no fewer than are asked.
use Rattle.std.proofs.Common.{◌≡◌, ℕ, ◌≤◌, length}
use Rattle.c_types.specs.Chains.{newest}
use Rattle.c_types.proofs.ChainLemmas.{steps}
use Rattle.c_types.proofs.chains.NameChain.newest.Given as goal

abbrev pub invariant-loop-last : goal.invariant-loop-last
invariant-loop-last l = (most : ℕ) × (l.fn.count ≤ most) × (most ≤ length l.self.entries) × (l.last ≡ newest l.self.entries l.fn.name most)

abbrev pub decreases-loop-last : goal.decreases-loop-last
decreases-loop-last l = steps l.last
