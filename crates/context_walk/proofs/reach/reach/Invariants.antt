-- What is known is shown; a block waits, or its successors have what comes from it; counts stay within what the blocks that
-- were reached pay for.
use Rattle.std.proofs.Common.{◌+◌, ◌*◌, length, unsigned_abs}
use Rattle.control_flow.specs.Seen.{graph_of_blocks, the_key}
use Rattle.context_walk.proofs.SpreadLemmas.{room_of_all}
use Rattle.context_walk.proofs.ReachLemmas.{AllWithin, Keeps}
use Rattle.context_walk.proofs.reach.reach.Given as goal

abbrev pub invariant-turns : goal.invariant-turns
invariant-turns l =
    record {
      keeps : Keeps (graph_of_blocks l.blocks) the_key l.enters l.counts.items l.worklist.items;
      within : AllWithin (graph_of_blocks l.blocks) (unsigned_abs l.enters) l.counts.items;
    }

abbrev pub decreases-turns : goal.decreases-turns
decreases-turns l = 2 * room_of_all l.counts.items + length l.worklist.items
