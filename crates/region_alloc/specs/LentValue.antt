-- What becomes of a region that lent one of its values.
use Rattle.std.specs.Prelude.{ℕ, List, slice_set}
use Rattle.std.specs.Borrow.{Lends, MutBor, Fml, RattleType}
use Rattle.region_alloc.specs.contracts.region.Region.{the_row}

-- once the borrow r ends, the value at h is the last one behind r, and all others are as they were
abbrev pub LendsValue : (T : RattleType) → MutBor (List T.Denot) → ℕ → MutBor T.Denot → Fml
LendsValue T region h r = Lends (the_row T) T region r (slice_set region.now h)
