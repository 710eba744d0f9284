-- What is passed, and the steps of the blocks that are left, make up all.
use Rattle.std.proofs.Common.{◌≡◌, ◌++◌, drop}
use Rattle.control_flow.specs.Seen.{graph_of_blocks, the_key}
use Rattle.context_walk.specs.Passed.{passed_of, passed_seen}
use Rattle.context_walk.proofs.passed.passed_steps.Given as goal

abbrev pub invariant-loop-number : goal.invariant-loop-number
invariant-loop-number l =
    passed_seen l.passed.items ++ passed_of the_key (drop l.number l.counts) (drop l.number (graph_of_blocks l.blocks)) ≡ passed_of the_key l.counts (graph_of_blocks l.blocks)
