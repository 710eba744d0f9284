-- One block more.
use Rattle.std.proofs.Common.{List, ◌+◌, ◌++◌, drop, sym, ap, ◌∙◌, append_assoc, arith}
use Rattle.meaning_paths.specs.Steps as steps
use Rattle.meaning_paths.specs.Graphs.{size_of_steps, steps_at}
use Rattle.control_flow.specs.Seen.{graph_of_blocks, the_key}
use Rattle.step_counts.specs.Counts.{counts_at}
use Rattle.context_walk.specs.Passed.{Passed, passed_from, passed_of, passed_seen}
use Rattle.context_walk.proofs.FlowLemmas.{length-graph, pass-one, slice-read}
use Rattle.context_walk.proofs.ReachLemmas.{size_at-le}
use Rattle.context_walk.proofs.passed.passed_steps.Goals as goal

pub pass_block-requires-clause-small : goal.pass_block-requires-clause-small
pass_block-requires-clause-small c =
    let read =
    slice-read c.args.blocks.now c.loop-number.number c.index-blocks-number.result c.as_slice.result.now c.loop-number-test.true c.index-blocks-number.is c.as_slice.ensures
    in
    omega (arith, size_at-le (graph_of_blocks c.args.blocks.now) c.loop-number.number, ap size_of_steps read, c.requires.small)

pub loop-number-preserved : goal.loop-number-preserved
loop-number-preserved c =
    let number = c.loop-number.number in
    let graph = graph_of_blocks c.args.blocks.now in
    let read = slice-read c.args.blocks.now number c.index-blocks-number.result c.as_slice.result.now c.loop-number-test.true c.index-blocks-number.is c.as_slice.ensures in
    let before = passed_seen c.loop-number.passed.items in
    let rest = passed_of the_key (drop (number + 1) c.args.counts.now) (drop (number + 1) graph) in
    ap (λ (front : List Passed). front ++ rest) c.in_ok-pass_block.ensures
    ∙ ap (λ (steps : List steps.Step). (before ++ passed_from the_key (counts_at c.args.counts.now number) steps) ++ rest) read
    ∙ append_assoc before (passed_from the_key (counts_at c.args.counts.now number) (steps_at graph number)) rest
    ∙ ap (λ (back : List Passed). before ++ back)
    (sym (pass-one the_key c.args.counts.now graph number (omega (arith, c.loop-number-test.true, c.requires.each)) (omega (arith, c.loop-number-test.true, length-graph c.args.blocks.now))))
    ∙ c.loop-number.invariant
