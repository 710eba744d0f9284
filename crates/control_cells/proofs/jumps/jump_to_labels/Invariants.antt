-- Those of the labels so far that are gone to have joined.
use Rattle.std.proofs.Common.{take}
use Rattle.control_cells.specs.Jumps.{HaveAllJoined, kinds_of}
use Rattle.control_cells.specs.Labels.{rows}
use Rattle.control_cells.proofs.jumps.jump_to_labels.Given as goal

abbrev pub invariant-loop-label : goal.invariant-loop-label
invariant-loop-label l =
    HaveAllJoined (kinds_of l.cells) l.first l.count (take l.label-index l.labels) (rows l.initial.jumps.items) (rows l.jumps.items)
