use Rattle.std.proofs.Common.{◌≤◌, ◌+◌, ◌-◌, ◌^◌, length}
use Rattle.control_flow.specs.Seen.{targets}
use Rattle.flows.specs.Reading.{number_at}
use Rattle.flows.specs.Lines.{begins_number, right_there, successors_at}
use Rattle.flows.proofs.ElementLemmas.{ReadsOn}
use Rattle.flows.proofs.line.read_successors.Given as goal

abbrev pub invariant-numbers : goal.invariant-numbers
invariant-numbers l =
    record {
      on : ReadsOn (number_at (2 ^ 30 - 1)) begins_number right_there (targets l.next) l.rest (successors_at l.text);
      shorter : length l.rest + length l.next ≤ length l.text;
    }

abbrev pub decreases-numbers : goal.decreases-numbers
decreases-numbers l = length l.rest
