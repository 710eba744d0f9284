-- What is left, and the numbers of the steps behind, make up the sum.
use Rattle.std.proofs.Common.{◌≡◌, ◌+◌, length, map}
use Rattle.meaning_paths.specs.Graphs.{size_of_steps}
use Rattle.control_flow.specs.Seen.{step_of}
use Rattle.context_walk.proofs.size.left_of.Given as goal

abbrev pub invariant-steps : goal.invariant-steps
invariant-steps l = l.left + size_of_steps (map step_of l.steps) ≡ l.sum + size_of_steps (map step_of l.rest)

abbrev pub decreases-steps : goal.decreases-steps
decreases-steps l = length l.rest
