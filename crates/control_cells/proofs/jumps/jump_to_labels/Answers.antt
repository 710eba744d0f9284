-- One more label.
use Rattle.std.proofs.Common.{◌≡◌, ◌+◌, ◌++◌, ◌∷◌, [], take, subst, sym}
use Rattle.control_cells.specs.Jumps.{HaveAllJoined, kinds_of}
use Rattle.control_cells.specs.Labels.{rows}
use Rattle.control_cells.proofs.ListLemmas.{take-more}
use Rattle.control_cells.proofs.jumps.jump_to_labels.Goals as goal

pub loop-label-preserved : goal.loop-label-preserved
loop-label-preserved c =
    subst (λ labels. HaveAllJoined (kinds_of c.args.cells.now) c.args.first c.args.count labels (rows c.args.jumps.now.items) (rows c.jump_to_label.new.jumps.items))
    (sym (take-more c.args.labels.now c.loop-label.label-index c.loop-label-test.true))
    (c.in_ok-jump_to_label.ensures (take c.loop-label.label-index c.args.labels.now) (rows c.args.jumps.now.items) c.loop-label.invariant)
