-- What is kept of the ids of one table in another one.
use Rattle.std.specs.Prelude.{◌≡◌, ℕ, List, map, length, slice_get, Some}
use Rattle.sparse_model.specs.declared.ids.NameId.{NameId}
use Rattle.c_tokens.specs.Seen.{text_of}

-- how ids are spelled
abbrev pub spelled : List (List ℕ) → List NameId → List (List ℕ)
spelled names ids = map (text_of names) ids

-- for each id of a table another table's, which is 0 or has the same spelling
pub record AreKept (names table : List (List ℕ)) (ids : List NameId) : Type 0 where
  pub all : length ids ≡ length names
  pub each : (old new : NameId) → slice_get ids old.0 ≡ Some new → (new.0 ≡ 0 → ⊥) → slice_get table new.0 ≡ Some (text_of names old)
