-- What the blocks of cells pass is what the cells pass.
use Rattle.std.proofs.Common.{◌≡◌, ℕ, zero, suc, ◌+◌, ◌-◌, ◌*◌, ◌≤◌, Bool, true, false, List, [], ◌∷◌, ◌++◌, length, sym, subst, arith}
use Rattle.std.proofs.lemmas.List.{length-map}
use Rattle.sparse_model.specs.declared.ids.NameId.{NameId}
use Rattle.meaning_paths.specs.Graphs.{BasicBlock, size_of_graph, size_of_steps}
use Rattle.meaning_control.specs.Kinds.{ControlKind, Calling, Context, For}
use Rattle.meaning_control.specs.Rows.{entry_steps, moment_steps}
use Rattle.meaning_control.specs.laws.Cells.{Cell, Tables, stops}
use Rattle.control_cells.specs.Blocks.{blocks_after, blocks_in_cell, closing_block, entry_block, first_block, graph_by, if_there, moment_block, tables_seen}
use Rattle.control_cells.specs.Seen.{cell_seen, cells_seen, may_have_moment}
use Rattle.control_cells.specs.Sizes.{EachPassesAtMost, size_of_kind}
use Rattle.control_cells.specs.declared.cell.Cell.{Cell as KeptCell}
use Rattle.control_cells.specs.declared.tables.CellTables.{CellTables}

size-joined : (blocks others : List BasicBlock) → size_of_graph (blocks ++ others) ≡ size_of_graph blocks + size_of_graph others
size-joined [] others = omega arith
size-joined (block ∷ blocks) others = omega (arith, size-joined blocks others)

size-if : (test : Bool) (block : BasicBlock) → size_of_graph (if_there test block) ≤ size_of_steps block.steps
size-if true block = omega arith
size-if false block = omega arith

-- a cell passes its numbers where it is entered, or at its moment
size-of_kind : (kind : ControlKind) (token : ℕ) → size_of_steps (entry_steps kind token) + size_of_steps (moment_steps kind token) ≤ size_of_kind kind
size-of_kind (Context by) token = omega arith
size-of_kind (Calling passes outcomes) token = omega arith
size-of_kind (For true) token = omega arith
size-of_kind (For false) token = omega arith
size-of_kind kind token = omega arith

next-times : (count most : ℕ) → most + count * most ≡ suc count * most
next-times count most = omega arith

module _ (tables : Tables) (most : ℕ) where
  size-cell : (number : ℕ) (cell : Cell) → size_of_graph (blocks_in_cell tables number cell) ≤ size_of_kind cell.kind
  size-cell number cell =
      let moment = may_have_moment cell.kind (length cell.parts) in
      omega (
        arith,
        size-joined (if_there (stops cell) (entry_block tables number cell)) (if_there moment (moment_block tables number cell)),
        size-if (stops cell) (entry_block tables number cell),
        size-if moment (moment_block tables number cell),
        size-of_kind cell.kind cell.token,
      )

  size-after : (front : List BasicBlock) (number : ℕ) (cells : List Cell) → EachPassesAtMost most cells
      → size_of_graph (blocks_after tables front number cells) ≤ size_of_graph front + length cells * most
  size-after front number [] small = omega arith
  size-after front number (cell ∷ cells) small =
      omega (
        arith,
        size-after (front ++ blocks_in_cell tables number cell) (number + 1) cells small.1,
        size-joined front (blocks_in_cell tables number cell),
        size-cell number cell,
        small.0,
        next-times (length cells) most,
      )

  size-graph : (brace : ℕ) (cells : List Cell) → EachPassesAtMost most cells → size_of_graph (graph_by tables brace cells) ≤ length cells * most
  size-graph brace cells small =
      let first : List BasicBlock = first_block tables (length cells - 1) ∷ [] in
      omega (arith, size-joined (blocks_after tables first 0 cells) (closing_block brace ∷ []), size-after first 0 cells small)

-- As they are kept

pub size-flow : (names : NameId → List ℕ) (kept : List KeptCell) (tables : CellTables) (brace : ℕ) (graph : List BasicBlock) (most : ℕ)
    → graph ≡ graph_by (tables_seen (cells_seen names kept) tables) brace (cells_seen names kept) → EachPassesAtMost most (cells_seen names kept)
    → size_of_graph graph ≤ length kept * most
size-flow names kept tables brace graph most is small =
    subst (λ (count : ℕ). size_of_graph graph ≤ count * most) (length-map kept (cell_seen names))
    (subst (λ (blocks : List BasicBlock). size_of_graph blocks ≤ length (cells_seen names kept) * most) (sym is)
    (size-graph (tables_seen (cells_seen names kept) tables) most brace (cells_seen names kept) small))
