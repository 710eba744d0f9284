-- The numbers of blocks, cell by cell: block 0 leads into the last cell, and the blocks of the cells stand behind it in order.
use Rattle.std.specs.Prelude.{ℕ, ◌+◌, ◌<◌, All, Bool, true, false, List, [], ◌∷◌, ◌++◌, length, get_or, if◌then◌else◌}
use Rattle.meaning_control.specs.laws.Cells.{Cell, stops}
use Rattle.control_cells.specs.Seen.{may_have_moment}
use Rattle.control_cells.specs.declared.cell.Cell.{Cell as KeptCell}
use Rattle.control_cells.specs.declared.numbers.BlockNumbers.{BlockNumbers}

-- how many cells a body may have, copies counted in
abbrev pub most_cells : ℕ
most_cells = 20000000

-- each part stands before its cell, where the first of these cells has this number
abbrev pub StandBehindParts : (number : ℕ) → List KeptCell → Type 0
StandBehindParts number [] = Unit {0}
StandBehindParts number (cell ∷ cells) = All (λ part. part < number) cell.parts.items × StandBehindParts (number + 1) cells

-- one where a test says so
abbrev pub one_if : Bool → ℕ
one_if true = 1
one_if false = 0

-- a block before a cell that stops control, and one at its moment
abbrev pub blocks_in : Cell → ℕ
blocks_in cell = one_if (stops cell) + one_if (may_have_moment cell.kind (length cell.parts))

-- the number behind the blocks of cells, of which the first one begins here
abbrev pub blocks_behind : (next : ℕ) → List Cell → ℕ
blocks_behind next [] = next
blocks_behind next (cell ∷ cells) = blocks_behind (next + blocks_in cell) cells

abbrev pub no_numbers : BlockNumbers
no_numbers = record { entry = 0; moment = 0 }

abbrev pub numbers_at : List BlockNumbers → (number : ℕ) → BlockNumbers
numbers_at numbers number = get_or numbers number no_numbers

-- where control goes into the first of these parts
abbrev pub entry_of_first : List BlockNumbers → (parts : List ℕ) → ℕ
entry_of_first numbers [] = 0
entry_of_first numbers (first ∷ parts) = (numbers_at numbers first).entry

-- of a cell, by the cells before it and the next number
abbrev pub numbers_row : List BlockNumbers → (next : ℕ) → Cell → BlockNumbers
numbers_row numbers next cell =
    record { entry = if stops cell then next else entry_of_first numbers cell.parts; moment = next + one_if (stops cell) }

-- those of some cells, and behind them those of others
abbrev pub numbers_from : List BlockNumbers → (next : ℕ) → List Cell → List BlockNumbers
numbers_from numbers next [] = numbers
numbers_from numbers next (cell ∷ cells) = numbers_from (numbers ++ numbers_row numbers next cell ∷ []) (next + blocks_in cell) cells

abbrev pub numbers_of : List Cell → List BlockNumbers
numbers_of cells = numbers_from [] 1 cells

-- that of the block behind them all, at the closing brace
abbrev pub closing_of : List Cell → ℕ
closing_of cells = blocks_behind 1 cells
