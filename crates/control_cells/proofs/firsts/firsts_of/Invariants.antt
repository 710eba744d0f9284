-- The first cells so far, and those of the cells that are left behind them, are those of all.
use Rattle.std.proofs.Common.{◌≡◌, ℕ, List, length, drop}
use Rattle.sparse_model.specs.declared.ids.NameId.{NameId as Name}
use Rattle.control_cells.specs.Numbers.{StandBehindParts}
use Rattle.control_cells.specs.Seen.{cells_seen}
use Rattle.control_cells.specs.Trees.{firsts_from, firsts_of}
use Rattle.control_cells.proofs.firsts.firsts_of.Given as goal

abbrev pub invariant-loop-cell : goal.invariant-loop-cell
invariant-loop-cell l =
    record {
      firsts : (names : Name → List ℕ) → firsts_from l.firsts.items (cells_seen names (drop l.cell-index l.cells)) ≡ firsts_of (cells_seen names l.cells);
      before : StandBehindParts l.cell-index (drop l.cell-index l.cells);
      count : length l.firsts.items ≡ l.cell-index;
      number : l.number ≡ l.cell-index;
    }
