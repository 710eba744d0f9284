use Rattle.std.proofs.Common.{◌≡◌, [], replicate}
use Rattle.control_cells.specs.Labels.{rows}
use Rattle.control_cells.proofs.labels.empty_lists.Given as goal

abbrev pub invariant-loop-number : goal.invariant-loop-number
invariant-loop-number l = rows l.lists.items ≡ replicate l._number []
