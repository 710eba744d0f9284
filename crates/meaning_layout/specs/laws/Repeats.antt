-- What holds of arrays of arrays.
use Rattle.std.specs.Prelude.{◌≡◌, ℕ, Result}
use Rattle.meaning_layout.specs.Layouts.{LayoutFault}
use Rattle.meaning_layout.specs.Sizes.{Extent, array_extent}
use Rattle.meaning_layout.specs.Repeats.{Repeats, once, repeated, times_more}

-- an array of what is repeated is repeated so many times_more more
abbrev pub ArraysRepeat : Type 0
ArraysRepeat = (length : ℕ) (repeats : Repeats) (one : Result Extent LayoutFault) → array_extent length (repeated repeats one) ≡ repeated (times_more length repeats) one

-- one by itself is as large as it is
abbrev pub OnceIsOne : Type 0
OnceIsOne = (one : Result Extent LayoutFault) → repeated once one ≡ one
