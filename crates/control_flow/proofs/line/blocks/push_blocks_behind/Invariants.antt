-- What was appended, and the blocks that are left, make up all.
use Rattle.std.proofs.Common.{◌≡◌, ◌++◌, length}
use Rattle.control_flow.specs.Seen.{graph_of_blocks}
use Rattle.control_flow.specs.Shown.{shown_blocks_behind}
use Rattle.control_flow.proofs.line.blocks.push_blocks_behind.Given as goal

abbrev pub invariant-turns : goal.invariant-turns
invariant-turns l = l.text.items ++ shown_blocks_behind (graph_of_blocks l.rest) ≡ l.fn.text.items ++ shown_blocks_behind (graph_of_blocks l.blocks)

abbrev pub decreases-turns : goal.decreases-turns
decreases-turns l = length l.rest
