-- The blocks so far, and behind them those of the cells that are left, are all.
use Rattle.std.proofs.Common.{◌≡◌, ℕ, List, drop}
use Rattle.sparse_model.specs.declared.ids.NameId.{NameId as Name}
use Rattle.control_flow.specs.Seen.{graph_of_blocks}
use Rattle.control_cells.specs.Blocks.{blocks_after, tables_seen}
use Rattle.control_cells.specs.Flows.{KeepsApart}
use Rattle.control_cells.specs.Numbers.{StandBehindParts}
use Rattle.control_cells.specs.Seen.{cells_seen}
use Rattle.control_cells.proofs.blocks.push_cells.Given as goal

abbrev pub invariant-loop-cell : goal.invariant-loop-cell
invariant-loop-cell l =
    record {
      blocks :
          (names : Name → List ℕ) → KeepsApart names
          → blocks_after (tables_seen (cells_seen names l.cells) l.tables) (graph_of_blocks l.blocks) l.number (cells_seen names (drop l.cell-index l.cells))
          ≡ blocks_after (tables_seen (cells_seen names l.cells) l.tables) (graph_of_blocks l.initial.blocks) 0 (cells_seen names l.cells);
      before : StandBehindParts l.cell-index (drop l.cell-index l.cells);
      number : l.number ≡ l.cell-index;
    }
