use Rattle.std.proofs.Common.{◌≡◌}
use Rattle.control_flow.specs.Seen.{targets}
use Rattle.flows.specs.Asked.{all_below}
use Rattle.flows.proofs.check.are_below.Given as goal

abbrev pub invariant-loop-number : goal.invariant-loop-number
invariant-loop-number l =
    record {
      next : (goal.iterator-loop-number).can_next l.number-iterator;
      finite : (goal.iterator-loop-number).is_finite l.number-iterator;
      all : all_below l.blocks (targets l.number-iterator) ≡ all_below l.blocks (targets l.next);
    }
