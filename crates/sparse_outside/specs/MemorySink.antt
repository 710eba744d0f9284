-- A sink over memory as its callers see it.
use Rattle.std.specs.Prelude.{ℕ, List}

pub record SinkState : Type 0 where
  -- the bytes that were written
  pub written : List ℕ
  -- how many more bytes fit
  pub room : ℕ
  -- how many puts failed, as far as a u64 counts
  pub faults : ℕ
