-- What is passed and what is left make up all.
use Rattle.std.proofs.Common.{◌≡◌, ◌<◌, ◌-◌, ◌^◌, ◌++◌, map, length}
use Rattle.meaning_paths.specs.Graphs.{size_of_steps}
use Rattle.control_flow.specs.Seen.{step_of, the_key}
use Rattle.step_counts.specs.Counts.{IsWithin}
use Rattle.context_walk.specs.Passed.{passed_from, passed_seen}
use Rattle.context_walk.proofs.passed.pass_block.Given as goal

abbrev pub invariant-steps : goal.invariant-steps
invariant-steps l =
    record {
      all :
          passed_seen l.passed.items ++ passed_from the_key l.comes (map step_of l.rest)
          ≡ passed_seen l.initial.passed.items ++ passed_from the_key l.initial.comes (map step_of l.steps);
      small : size_of_steps (map step_of l.rest) < 2 ^ 63;
      within : IsWithin (2 ^ 63 - 1) (size_of_steps (map step_of l.rest)) l.comes;
    }

abbrev pub decreases-steps : goal.decreases-steps
decreases-steps l = length l.rest
