-- What is left, and the numbers of the blocks behind, make up the sum.
use Rattle.std.proofs.Common.{◌≡◌, ◌+◌, length}
use Rattle.meaning_paths.specs.Graphs.{size_of_graph}
use Rattle.control_flow.specs.Seen.{graph_of_blocks}
use Rattle.context_walk.proofs.size.left_of_blocks.Given as goal

abbrev pub invariant-turns : goal.invariant-turns
invariant-turns l = l.left + size_of_graph (graph_of_blocks l.blocks) ≡ l.sum + size_of_graph (graph_of_blocks l.rest)

abbrev pub decreases-turns : goal.decreases-turns
decreases-turns l = length l.rest
