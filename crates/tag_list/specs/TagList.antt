-- What always holds of the fields of a list of tagged handles.
use Rattle.std.specs.Prelude.{◌≡◌, ℕ, ◌^◌, ◌≤◌, List, length, All}
use Rattle.smallvec.specs.SmallVec.{SmallVec}
use Rattle.tag_list.specs.Chain.{AllFilled, entries}
use Rattle.tag_list.specs.Tagged.{IsTagged}

-- a chain with no empty vector holds `len` tagged handles, at most 2 ^ 30
pub record IsTagList (chain : List (SmallVec (ℕ × ℕ))) (len : ℕ) : Type 0 where
  pub counted : len ≡ length (entries chain)
  pub small : len ≤ 2 ^ 30
  pub filled : AllFilled chain
  pub tagged : All IsTagged (entries chain)
