-- What becomes of a chain of vectors whose first vector lent a place.
use Rattle.std.specs.Prelude.{ℕ}
use Rattle.std.specs.Borrow.{Lends, MutBor, Fml, RattleType}
use Rattle.chunk_list.specs.declared.chunks.Chunks.{Chunks}
use Rattle.chunk_list.specs.contracts.chunks.Chunks.{the_row}
use Rattle.chunk_list.specs.Chunks.{with_front_item}

-- once the borrow r ends, place i of the first vector has the last value behind r, and all else is as it was
abbrev pub LendsFrontItem : (T : RattleType) → MutBor (Chunks T.Denot) → ℕ → MutBor T.Denot → Fml
LendsFrontItem T chunks i r =
    Lends (the_row T) T chunks r (λ w. record { list = with_front_item chunks.now.list i w })
