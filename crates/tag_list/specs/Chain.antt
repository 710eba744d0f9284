-- A chain of vectors of tagged handles, read as one list.
use Rattle.std.specs.Prelude.{ℕ, List}
use Rattle.smallvec.specs.SmallVec.{SmallVec}
use Rattle.chunk_list.specs.Chunks as chunks

-- what one vector holds
abbrev pub few_items : SmallVec (ℕ × ℕ) → List (ℕ × ℕ)
few_items few = few.items

-- the tagged handles of the vectors, one vector after another
abbrev pub entries : List (SmallVec (ℕ × ℕ)) → List (ℕ × ℕ)
entries list = chunks.contents few_items list

-- no vector of the chain is empty
abbrev pub AllFilled : List (SmallVec (ℕ × ℕ)) → Type 0
AllFilled list = chunks.AllFilled few_items list
