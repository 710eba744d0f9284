-- What is spread over the numbers that are left is what is spread over all.
use Rattle.std.proofs.Common.{◌≡◌, length}
use Rattle.control_flow.specs.Seen.{targets}
use Rattle.context_walk.specs.Spread.{AllBelow, spread_counts, spread_worklist}
use Rattle.context_walk.proofs.spread.spread.Given as goal

abbrev pub invariant-loop-to : goal.invariant-loop-to
invariant-loop-to l =
    record {
      next : (goal.iterator-loop-to).can_next l.to-iterator;
      finite : (goal.iterator-loop-to).is_finite l.to-iterator;
      counts : spread_counts l.comes (targets l.to-iterator) l.counts.items ≡ spread_counts l.comes (targets l.next) l.initial.counts.items;
      worklist :
          spread_worklist l.comes (targets l.to-iterator) l.counts.items l.worklist.items
          ≡ spread_worklist l.comes (targets l.next) l.initial.counts.items l.initial.worklist.items;
      below : AllBelow (length l.counts.items) (targets l.to-iterator);
    }
