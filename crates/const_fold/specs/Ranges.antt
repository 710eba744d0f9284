-- How many numbers a kind may have.
use Rattle.std.specs.Prelude.{ℤ, pos, ◌≤ℤ◌}

-- two at least, and 2^64 at most
abbrev pub IsCount : ℤ → Type 0
IsCount count = (pos 2 ≤ℤ count) × (count ≤ℤ pos 18446744073709551616)
