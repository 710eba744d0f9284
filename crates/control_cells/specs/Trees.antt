-- Cells that make one tree: the last one is its root, and those below a cell stand together before it.
use Rattle.std.specs.Prelude.{ℕ, ◌+◌, ◌<◌, ◌≤◌, List, [], ◌∷◌, ◌++◌, length, get_or}
use Rattle.meaning_control.specs.laws.Cells.{Cell}
use Rattle.control_cells.specs.Exits.{EachIsPartOnce, HasPart}

-- the first of the cells below this one, by those of the cells before it: itself, where it has no parts
abbrev pub first_by : List ℕ → (number : ℕ) → (parts : List ℕ) → ℕ
first_by firsts number [] = number
first_by firsts number (part ∷ parts) = get_or firsts part 0

-- those of some cells, and behind them those of others
abbrev pub firsts_from : List ℕ → List Cell → List ℕ
firsts_from firsts [] = firsts
firsts_from firsts (cell ∷ cells) = firsts_from (firsts ++ first_by firsts (length firsts) cell.parts ∷ []) cells

abbrev pub firsts_of : List Cell → List ℕ
firsts_of cells = firsts_from [] cells

abbrev pub first_at : List ℕ → (number : ℕ) → ℕ
first_at firsts number = get_or firsts number 0

pub record IsOneTree (cells : List Cell) : Type 0 where
  pub some : 0 < length cells
  pub each : EachIsPartOnce cells
  -- each cell but the last one is a part
  pub whole : (part : ℕ) → part + 1 < length cells → (number place : ℕ) × HasPart cells number place part
  -- the cells below a part are below its cell
  pub within : (number place part : ℕ) → HasPart cells number place part → first_at (firsts_of cells) number ≤ first_at (firsts_of cells) part
  -- and those below a later one stand behind it
  pub behind : (number place part other : ℕ) → HasPart cells number place part → part < other → other < number → part < first_at (firsts_of cells) other
