-- What always holds of a region's fields.
use Rattle.std.specs.Prelude.{◌≡◌, ℕ, ◌+◌, ◌^◌, ◌≤◌, List, length}
use Rattle.std.specs.Global.{Vec}
use Rattle.chunk_list.specs.Chunks.{AllFilled, contents, items_of}

-- two chains with no empty vector hold `len` values together, at most 2 ^ 30
pub record IsCounted {X : Type 0} (before after : List (Vec X)) (len : ℕ) : Type 0 where
  pub counted : len ≡ length (contents items_of before) + length (contents items_of after)
  pub small : len ≤ 2 ^ 30
  pub before_filled : AllFilled items_of before
  pub after_filled : AllFilled items_of after
