-- Counts of faults.
use Rattle.std.proofs.Common.{◌≡◌, ℕ, ◌<◌, arith}
use Rattle.meaning_outside.specs.Faults.{Told, ToldOfTwo}

-- where no fault is told, the count stands still
pub stands_still : (before now : ℕ) (failed : Type 0) → Told before now failed → (failed → ⊥) → now ≡ before
stands_still before now failed told none =
    let no_more : before < now → ⊥ = λ more. none (told.always more) in
    omega (arith, no_more, told.later)

-- what tells of no fault may tell so by any answer that doesn't come
pub told_by_none : (before now : ℕ) (failed other : Type 0) → Told before now failed → (failed → ⊥) → (other → ⊥) → Told before now other
told_by_none before now failed other told none no_other =
    record { later = told.later; only = λ is. absurd (no_other is); always = λ grew. absurd (none (told.always grew)) }

pub told_of_two_by_none :
    (before_out now_out before_err now_err : ℕ) (failed other : Type 0) → ToldOfTwo before_out now_out before_err now_err failed → (failed → ⊥) → (other → ⊥)
    → ToldOfTwo before_out now_out before_err now_err other
told_of_two_by_none before_out now_out before_err now_err failed other told none no_other =
    record {
      later_out = told.later_out;
      later_err = told.later_err;
      only = λ is. absurd (no_other is);
      always_out = λ grew. absurd (none (told.always_out grew));
      always_err = λ grew. absurd (none (told.always_err grew));
    }

-- a fault may be told by another answer that comes where the first one comes
pub told_as : (before now : ℕ) (failed other : Type 0) → Told before now failed → (failed → other) → (other → failed) → Told before now other
told_as before now failed other told to from =
    record { later = told.later; only = λ is. told.only (from is); always = λ grew. to (told.always grew) }
