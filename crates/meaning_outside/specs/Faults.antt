-- Counts of faults, which never fall and stand still at the end of their type.
use Rattle.std.specs.Prelude.{◌≤◌, ◌<◌, ◌+◌, ◌-◌, ◌^◌, ◌⊎◌, ℕ, min}

-- the count rose from before to now, or stands at the end of its type
abbrev pub Rose : ℕ → ℕ → Type 0
Rose before now = min (before + 1) (2 ^ 64 - 1) ≤ now

-- A call left the count so. `failed` says which answer of the call tells of a fault.
pub record Told (before now : ℕ) (failed : Type 0) : Type 0 where
  -- the count never falls
  pub later : before ≤ now
  -- a fault is told only where the count rose
  pub only : failed → Rose before now
  -- and wherever it grew
  pub always : before < now → failed

-- The same of a call that writes to two sinks, each with a count of its own.
pub record ToldOfTwo (before_out now_out before_err now_err : ℕ) (failed : Type 0) : Type 0 where
  pub later_out : before_out ≤ now_out
  pub later_err : before_err ≤ now_err
  -- a fault is told only where one of the counts rose
  pub only : failed → Rose before_out now_out ⊎ Rose before_err now_err
  -- and wherever one grew
  pub always_out : before_out < now_out → failed
  pub always_err : before_err < now_err → failed
