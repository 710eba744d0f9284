use Rattle.std.proofs.Common.{◌≤◌, ◌^◌, length}
use Rattle.control_flow.specs.Seen.{graph_of_blocks}
use Rattle.flows.specs.Lines.{begins_block, behind_bar, block_at, blocks_at}
use Rattle.flows.proofs.ElementLemmas.{ReadsOn}
use Rattle.flows.proofs.line.read_blocks.Given as goal

abbrev pub invariant-parts : goal.invariant-parts
invariant-parts l = record { on : ReadsOn block_at begins_block behind_bar (graph_of_blocks l.blocks) l.rest (blocks_at l.text); small : length l.rest ≤ 2 ^ 30 }

abbrev pub decreases-parts : goal.decreases-parts
decreases-parts l = length l.rest
