-- Arrays of arrays, as so many of what stands at the innermost level: what a table keeps of an array whose element may
-- become complete later.
use Rattle.std.specs.Prelude.{ℕ, ◌+◌, ◌*◌, max, min, nat_le, Result, Ok, Err, if◌then◌else◌}
use Rattle.meaning_layout.specs.Layouts.{LayoutFault, TooLarge, most_bytes}
use Rattle.meaning_layout.specs.Sizes.{Extent}

-- how many there are, and the most that an array among them has, from the innermost one on; both are counted up to one
-- more than an object may have bytes
pub record Repeats : Type 0 where
  pub count : ℕ
  pub most : ℕ

-- one by itself, in no array
abbrev pub once : Repeats
once = record { count = 1; most = 0 }

abbrev pub capped_count : ℕ → ℕ
capped_count count = min count (most_bytes + 1)

-- an array of so many of them
abbrev pub times_more : ℕ → Repeats → Repeats
times_more length repeats = record { count = capped_count (length * repeats.count); most = max repeats.most (capped_count (length * repeats.count)) }

-- the extent of all by that of one: no array among them may be too large
abbrev pub repeated : Repeats → Result Extent LayoutFault → Result Extent LayoutFault
repeated repeats (Err fault) = Err fault
repeated repeats (Ok one) =
    if nat_le (repeats.most * one.size) most_bytes then Ok (record { size = repeats.count * one.size; align = one.align }) else Err TooLarge
