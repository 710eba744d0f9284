-- Changes stay in their size, and counts in their bounds.
use Rattle.std.proofs.Common.{ℕ, ◌+◌, ◌-◌, ◌^◌, ◌≤◌, FitsSigned, ℤ, pos, negsuc, ◌+ℤ◌, ◌-ℤ◌, ◌≤ℤ◌, unsigned_abs, nat_eq, Bool, true, false, List, [], ◌∷◌, if◌then◌else◌, arith}
use Rattle.std.specs.Int.{w64}
use Rattle.std.proofs.lemmas.Int.{fits_signed_from_abs, ints}
use Rattle.meaning_paths.specs.Steps.{Step, Point, Add, Call, End, change}
use Rattle.meaning_paths.specs.Graphs.{size_of_step, size_of_steps}
use Rattle.step_counts.specs.declared.counts.Counts.{Counts}
use Rattle.step_counts.specs.declared.counts.Counts.TheVariants.{Never, One, Several}
use Rattle.step_counts.specs.Counts.{HasRoom, IsWithin, shifted, total}

-- a number is no further from 0 than a size
pub record IsOfSize (number : ℤ) (size : ℕ) : Type 0 where
  pub high : number ≤ℤ pos size
  pub low : pos 0 ≤ℤ (number +ℤ pos size)

pub abs_of_size : (number : ℤ) → IsOfSize number (unsigned_abs number)
abs_of_size (pos n) = record { high = omega (arith, ints); low = omega (arith, ints) }
abs_of_size (negsuc n) = record { high = omega (arith, ints); low = omega (arith, ints) }

of_size-if : (test : Bool) (number : ℤ) (size : ℕ) → IsOfSize number size → IsOfSize (if test then number else pos 0) size
of_size-if true number size is = is
of_size-if false number size is = record { high = omega (arith, ints); low = omega (arith, ints) }

pub change_of_size : (key : ℕ) (step : Step) → IsOfSize (change key step) (size_of_step step)
change_of_size key (Point token moment) = record { high = omega (arith, ints); low = omega (arith, ints) }
change_of_size key (Add token other by) = of_size-if (nat_eq other key) by (unsigned_abs by) (abs_of_size by)
change_of_size key (Call token other enters leaves) =
    let in_ = abs_of_size enters in
    let out = abs_of_size leaves in
    of_size-if (nat_eq other key) (leaves -ℤ enters) (unsigned_abs enters + unsigned_abs leaves)
    (record { high = omega (arith, ints, in_.low, out.high); low = omega (arith, ints, in_.high, out.low) })
change_of_size key (End token) = record { high = omega (arith, ints); low = omega (arith, ints) }

pub total_of_size : (key : ℕ) (steps : List Step) → IsOfSize (total key steps) (size_of_steps steps)
total_of_size key [] = record { high = omega (arith, ints); low = omega (arith, ints) }
total_of_size key (step ∷ steps) =
    let one = change_of_size key step in
    let rest = total_of_size key steps in
    record { high = omega (arith, ints, one.high, rest.high); low = omega (arith, ints, one.low, rest.low) }

-- behind a change of this size as much less is left
pub within-shifted : (bound own more : ℕ) (comes : Counts) (by : ℤ) → IsOfSize by own → IsWithin bound (own + more) comes → IsWithin bound more (shifted comes by)
within-shifted bound own more Never by is within = tt
within-shifted bound own more (One count) by is within = (omega (arith, ints, is.high, within.0), omega (arith, ints, is.low, within.1))
within-shifted bound own more Several by is within = tt

-- in a larger bound, with less of its own
pub within-weaker : (bound larger own less : ℕ) (comes : Counts) → bound ≤ larger → less ≤ own → IsWithin bound own comes → IsWithin larger less comes
within-weaker bound larger own less Never above below within = tt
within-weaker bound larger own less (One count) above below within = (omega (arith, ints, within.0), omega (arith, ints, within.1))
within-weaker bound larger own less Several above below within = tt

-- a number of a size has no more without its sign
abs-le : (number : ℤ) (size : ℕ) → IsOfSize number size → unsigned_abs number ≤ size
abs-le (pos n) size is = let high = is.high in omega (arith, ints, high)
abs-le (negsuc n) size is = let low = is.low in omega (arith, ints, low)

-- a number of a size below 2^63 fits
pub fits-of-size : (number : ℤ) (size : ℕ) → size ≤ 2 ^ 63 - 1 → IsOfSize number size → FitsSigned w64 number
fits-of-size number size small is = fits_signed_from_abs w64 number (omega (arith, small, abs-le number size is))

-- so a count that is within its bound has room for a change of that size
pub within-room : (own : ℕ) (comes : Counts) (by : ℤ) → IsOfSize by own → IsWithin (2 ^ 63 - 1) own comes → HasRoom comes by
within-room own Never by is within = tt
within-room own (One count) by is within =
    let high = is.high in
    let low = is.low in
    fits-of-size (count +ℤ by) (2 ^ 63 - 1) (omega arith) (record { high = omega (arith, ints, high, within.0); low = omega (arith, ints, low, within.1) })
within-room own Several by is within = tt
