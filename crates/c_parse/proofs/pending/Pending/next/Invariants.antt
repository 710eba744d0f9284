-- The same items wait.
use Rattle.std.proofs.Common.{◌≡◌, length}
use Rattle.c_parse.specs.Rows.{waiting, IsPending}
use Rattle.c_parse.proofs.pending.Pending.next.Given as goal

abbrev pub invariant-rows : goal.invariant-rows
invariant-rows l =
    record {
      same : waiting l.self-inside.front l.self-inside.rows.items ≡ waiting l.initial.self-inside.front l.initial.self-inside.rows.items;
      pending : IsPending l.self-inside.front l.self-inside.rows.items l.self-inside.counted;
    }

abbrev pub decreases-rows : goal.decreases-rows
decreases-rows l = length l.self-inside.rows.items
