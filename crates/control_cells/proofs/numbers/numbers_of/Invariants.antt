-- The numbers of the cells so far, and those of the cells that are left behind them, are the numbers of all.
use Rattle.std.proofs.Common.{◌≡◌, ◌≤◌, ◌+◌, ◌*◌, ℕ, List, length, drop}
use Rattle.sparse_model.specs.declared.ids.NameId.{NameId as Name}
use Rattle.control_cells.specs.Numbers.{StandBehindParts, blocks_behind, closing_of, numbers_from, numbers_of}
use Rattle.control_cells.specs.Seen.{cells_seen}
use Rattle.control_cells.proofs.numbers.numbers_of.Given as goal

abbrev pub invariant-loop-cell : goal.invariant-loop-cell
invariant-loop-cell l =
    record {
      numbers : (names : Name → List ℕ) → numbers_from l.numbers.items l.next (cells_seen names (drop l.cell-index l.cells)) ≡ numbers_of (cells_seen names l.cells);
      closing : (names : Name → List ℕ) → blocks_behind l.next (cells_seen names (drop l.cell-index l.cells)) ≡ closing_of (cells_seen names l.cells);
      before : StandBehindParts l.cell-index (drop l.cell-index l.cells);
      count : length l.numbers.items ≡ l.cell-index;
      small : l.next ≤ 1 + 2 * l.cell-index;
    }
