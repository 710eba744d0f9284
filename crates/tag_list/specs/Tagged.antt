-- Handles with tags.
use Rattle.std.specs.Prelude.{ℕ, ◌<◌, ◌^◌, List, slice_index_or, slice_set}

-- a handle below 2 ^ 30 with a tag from 0 to 3
abbrev pub IsTagged : ℕ × ℕ → Type 0
IsTagged entry = (entry.0 < 2 ^ 30) × (entry.1 < 4)

-- the list with the tag at place i, where the handle stays
abbrev pub with_tag : List (ℕ × ℕ) → ℕ → ℕ → List (ℕ × ℕ)
with_tag entries i tag = slice_set entries i ((slice_index_or entries i (0, 0)).0, tag)
