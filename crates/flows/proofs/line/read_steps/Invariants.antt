use Rattle.std.proofs.Common.{◌≤◌, length, map}
use Rattle.control_flow.specs.Seen.{step_of}
use Rattle.flows.specs.Steps.{step_at}
use Rattle.flows.specs.Lines.{begins_step, right_there, steps_at}
use Rattle.flows.proofs.ElementLemmas.{ReadsOn}
use Rattle.flows.proofs.line.read_steps.Given as goal

abbrev pub invariant-steps : goal.invariant-steps
invariant-steps l = record { on : ReadsOn step_at begins_step right_there (map step_of l.steps) l.rest (steps_at l.text); shorter : length l.rest ≤ length l.text }

abbrev pub decreases-steps : goal.decreases-steps
decreases-steps l = length l.rest
