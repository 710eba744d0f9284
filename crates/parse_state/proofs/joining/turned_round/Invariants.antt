-- What was put, and behind it what is left from the back, is all of it from the back.
use Rattle.std.proofs.Common.{◌≡◌, ◌+◌, ◌≤◌, ◌^◌, ◌++◌, reverse, length}
use Rattle.parse_state.proofs.joining.turned_round.Given as goal

abbrev pub invariant-loop-handle : goal.invariant-loop-handle
invariant-loop-handle l =
    record {
      turned : l.turned ++ reverse l.left ≡ reverse l.fn.children;
      room : length l.turned + length l.left ≤ 2 ^ 30;
    }

abbrev pub decreases-loop-handle : goal.decreases-loop-handle
decreases-loop-handle l = length l.left
