-- The sum so far and what is left make up the whole, and both stay in their size.
use Rattle.std.proofs.Common.{◌≡◌, map, length, pos, ◌+ℤ◌, ◌≤ℤ◌}
use Rattle.meaning_paths.specs.Graphs.{size_of_steps}
use Rattle.control_flow.specs.Seen.{step_of, the_key}
use Rattle.step_counts.specs.Counts.{total}
use Rattle.step_counts.proofs.steps.total.Given as goal

abbrev pub invariant-steps : goal.invariant-steps
invariant-steps l =
    record {
      sum : l.sum +ℤ total the_key (map step_of l.rest) ≡ total the_key (map step_of l.steps);
      high : (l.sum +ℤ pos (size_of_steps (map step_of l.rest))) ≤ℤ pos (size_of_steps (map step_of l.steps));
      low : pos (size_of_steps (map step_of l.rest)) ≤ℤ (l.sum +ℤ pos (size_of_steps (map step_of l.steps)));
    }

abbrev pub decreases-steps : goal.decreases-steps
decreases-steps l = length l.rest
