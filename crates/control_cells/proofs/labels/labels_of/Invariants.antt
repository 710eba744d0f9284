-- The labels so far stand in the lists of their owners.
use Rattle.std.proofs.Common.{ℕ, List}
use Rattle.sparse_model.specs.declared.ids.NameId.{NameId as Name}
use Rattle.control_cells.specs.Labels.{AreOwned, rows}
use Rattle.control_cells.specs.Seen.{cells_seen}
use Rattle.control_cells.proofs.labels.labels_of.Given as goal

abbrev pub invariant-loop-number : goal.invariant-loop-number
invariant-loop-number l = (names : Name → List ℕ) → AreOwned (cells_seen names l.cells) l.exits l.number (rows l.lists.items)
