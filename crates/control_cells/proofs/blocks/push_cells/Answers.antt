-- The blocks of one more cell.
use Rattle.std.proofs.Common.{◌≡◌, ◌+◌, ◌∷◌, ◌++◌, drop, ap, sym, subst, ◌∙◌, arith}
use Rattle.control_flow.specs.Seen.{graph_of_blocks}
use Rattle.control_cells.specs.Blocks.{blocks_after, tables_seen}
use Rattle.control_cells.specs.Numbers.{StandBehindParts}
use Rattle.control_cells.specs.Seen.{cells_seen}
use Rattle.control_cells.proofs.ListLemmas.{drop-item}
use Rattle.control_cells.proofs.blocks.push_cells.Goals as goal

pub loop-cell-preserved : goal.loop-cell-preserved
loop-cell-preserved c =
    let next = drop-item c.args.cells.now c.loop-cell.cell-index c.cell-item.result c.loop-cell-test.true c.cell-item.is in
    record {
      blocks = λ names apart.
          ap (λ front. blocks_after (tables_seen (cells_seen names c.args.cells.now) c.args.tables.now) front (c.loop-cell.number + 1) (cells_seen names (drop (c.loop-cell.cell-index + 1) c.args.cells.now)))
          (c.in_ok-push_cell.ensures names apart)
          ∙ ap (λ rest. blocks_after (tables_seen (cells_seen names c.args.cells.now) c.args.tables.now) (graph_of_blocks c.loop-cell.blocks) c.loop-cell.number (cells_seen names rest)) (sym next)
          ∙ c.loop-cell.invariant.blocks names apart;
      before = (subst (λ rest. StandBehindParts c.loop-cell.cell-index rest) next c.loop-cell.invariant.before).1;
      number = omega (arith, c.loop-cell.invariant.number);
    }
