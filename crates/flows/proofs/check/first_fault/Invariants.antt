use Rattle.std.proofs.Common.{◌≡◌, ◌+◌, length}
use Rattle.control_flow.specs.Seen.{graph_of_blocks}
use Rattle.flows.specs.Asked.{fault_from}
use Rattle.flows.proofs.check.first_fault.Given as goal

abbrev pub invariant-turns : goal.invariant-turns
invariant-turns l =
    record {
      fault : fault_from (length l.blocks) l.left l.number (graph_of_blocks l.rest) ≡ fault_from (length l.blocks) l.initial.left 0 (graph_of_blocks l.blocks);
      number : l.number + length l.rest ≡ length l.blocks;
    }

abbrev pub decreases-turns : goal.decreases-turns
decreases-turns l = length l.rest
