-- What was appended, and the steps that are left, make up all.
use Rattle.std.proofs.Common.{◌≡◌, ◌++◌, length, map}
use Rattle.control_flow.specs.Seen.{step_of}
use Rattle.control_flow.specs.Shown.{shown_steps_behind}
use Rattle.control_flow.proofs.line.steps.push_steps_behind.Given as goal

abbrev pub invariant-steps : goal.invariant-steps
invariant-steps l = l.text.items ++ shown_steps_behind (map step_of l.rest) ≡ l.fn.text.items ++ shown_steps_behind (map step_of l.steps)

abbrev pub decreases-steps : goal.decreases-steps
decreases-steps l = length l.rest
