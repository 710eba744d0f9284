use Rattle.std.proofs.Common.{◌≡◌, ℕ, false, length, map, option_map, slice_get, replicate}
use Rattle.c_macros.specs.Operands.{part_by}
use Rattle.c_macros.specs.Seen.{Spelling}
use Rattle.c_macros.specs.Uses.{noted_all}
use Rattle.c_macros.proofs.uses.read_uses.Given as goal

-- what the operands that are left add to what is known is what all make of nothing known
abbrev pub invariant-loop-part : goal.invariant-loop-part
invariant-loop-part l = (s : Spelling) (k : ℕ) →
    option_map (noted_all k (map (part_by s) l.rest)) (slice_get l.uses.items k)
    ≡ option_map (noted_all k (map (part_by s) l.parts)) (slice_get (replicate l.count (record { apart = false; raw = false })) k)

abbrev pub decreases-loop-part : goal.decreases-loop-part
decreases-loop-part l = length l.rest
