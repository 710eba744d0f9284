use Rattle.std.proofs.Common.{◌≡◌, ◌-◌, suc, reverse, arith}
use Rattle.unit_commands.specs.Trees.{source_seen}
use Rattle.unit_commands.specs.Walk.{tree_text}
use Rattle.unit_commands.proofs.Steps.{one-less}
use Rattle.unit_commands.proofs.walk.tree_text.Goals as goal

pub steps-preserved : goal.steps-preserved
steps-preserved c =
    let shown = source_seen c.args.source.now in
    let one_more : c.steps.left ≡ suc (c.steps.left - 1) = omega (arith, c.steps-test.true) in
    one-less shown c.steps.left (c.steps.left - 1) (reverse c.steps.frames.items) (reverse c.step.new.frames.items) c.steps.text.items c.step.new.text.items (tree_text shown)
    one_more c.in_ok-step.ensures.text c.in_ok-step.ensures.frames c.steps.invariant
