-- The tables that numbers and exits make, with the labels of bodies and of switches, and those that are seen.
use Rattle.std.specs.Prelude.{ℕ, zero, suc, ◌+◌, ◌-◌, Bool, ◌&&◌, nat_lt, nat_le, List, [], ◌∷◌, ◌++◌, length, if◌then◌else◌}
use Rattle.meaning_control.specs.Kinds.{ControlKind, is_body, is_case, is_label}
use Rattle.meaning_control.specs.States.{ends_cases}
use Rattle.meaning_control.specs.laws.Cells.{AreTables, Cell, LabelledBlock, Tables, found_among}
use Rattle.control_cells.specs.Exits.{AreExits, exits_at}
use Rattle.control_cells.specs.Numbers.{numbers_at, numbers_of, closing_of}
use Rattle.control_cells.specs.Seen.{cell_at}
use Rattle.control_cells.specs.Trees.{IsOneTree, first_at, firsts_of}
use Rattle.control_cells.specs.declared.exits.Exits.{Exits}
use Rattle.control_cells.specs.declared.numbers.BlockNumbers.{BlockNumbers}

module _ (is_sought ends : ControlKind → Bool) (cells : List Cell) (entry : ℕ → ℕ) where
  -- labels of some kinds below a cell, over so many cells one below the other
  abbrev pub found_over : (depth number : ℕ) → List LabelledBlock
  found_over zero number = []
  found_over (suc depth) number = found_among cells is_sought ends entry (found_over depth) (cell_at cells number).parts

  -- each part stands before its cell
  abbrev pub found_below : (number : ℕ) → List LabelledBlock
  found_below number = found_over (suc number) number

-- a body of which a cell is one of those below
abbrev pub is_around : List Cell → (firsts : List ℕ) → (body number : ℕ) → Bool
is_around cells firsts body number = nat_lt number body && (is_body (cell_at cells body).kind && nat_le (first_at firsts body) number)

-- the labels of the bodies around a cell, among so many cells from a first one on
abbrev pub seen_among : List Cell → (firsts : List ℕ) → (labels : ℕ → List LabelledBlock) → (number : ℕ) → (count body : ℕ) → List LabelledBlock
seen_among cells firsts labels number zero body = []
seen_among cells firsts labels number (suc count) body =
    (if is_around cells firsts body number then labels body else []) ++ seen_among cells firsts labels number count (body + 1)

abbrev pub tables_of : List Cell → List BlockNumbers → List Exits → Tables
tables_of cells numbers exits =
    record {
      entry = λ number. (numbers_at numbers number).entry;
      moment = λ number. (numbers_at numbers number).moment;
      hit = λ number. (exits_at exits number).hit;
      miss = λ number. (exits_at exits number).miss;
      broken = λ number. (exits_at exits number).broken;
      continued = λ number. (exits_at exits number).continued;
      labels = found_below is_label is_body cells (λ number. (numbers_at numbers number).entry);
      cases = found_below is_case ends_cases cells (λ number. (numbers_at numbers number).entry);
      seen =
          λ number.
          seen_among cells (firsts_of cells) (found_below is_label is_body cells (λ other. (numbers_at numbers other).entry)) number (length cells) 0;
    }

-- those of the cells of one tree are what a flow's tables owe them
abbrev pub TablesKeepEquations : Type 0
TablesKeepEquations =
    (cells : List Cell) (exits : List Exits) → IsOneTree cells → AreExits cells (numbers_of cells) (closing_of cells) exits
    → AreTables cells (length cells - 1) (closing_of cells) (tables_of cells (numbers_of cells) exits)
