-- The blocks to which control goes where a cell is left, and the body and the switch around it: each part is told by its cell.
use Rattle.std.specs.Prelude.{◌≡◌, ℕ, ◌+◌, ◌-◌, ◌<◌, Bool, true, false, List, [], ◌∷◌, length, get_or, slice_get, slice_set, Option, Some, None, if◌then◌else◌}
use Rattle.meaning_control.specs.Kinds.{is_body, is_loop_body, is_broken}
use Rattle.meaning_control.specs.Rows.{Way, Into, Moment, Out, behind}
use Rattle.meaning_control.specs.States.{ends_cases}
use Rattle.meaning_control.specs.laws.Cells.{Cell}
use Rattle.control_cells.specs.Seen.{cell_at}
use Rattle.control_cells.specs.Numbers.{numbers_at}
use Rattle.control_cells.specs.declared.numbers.BlockNumbers.{BlockNumbers}
use Rattle.control_cells.specs.declared.exits.Exits.{Exits}

-- the cell with this number has this part at this place
abbrev pub HasPart : List Cell → (number place part : ℕ) → Type 0
HasPart cells number place part = slice_get (cell_at cells number).parts place ≡ Some part

-- cells that make one tree or more: each part stands before its cell, and is a part once
pub record EachIsPartOnce (cells : List Cell) : Type 0 where
  pub before : (number place part : ℕ) → HasPart cells number place part → part < number
  pub once : (number place other elsewhere part : ℕ) → HasPart cells number place part → HasPart cells other elsewhere part
      → (number ≡ other) × (place ≡ elsewhere)

-- before the part at a place; one that isn't there is passed
abbrev pub entry_or : List BlockNumbers → Option ℕ → (otherwise : ℕ) → ℕ
entry_or numbers None otherwise = otherwise
entry_or numbers (Some part) otherwise = (numbers_at numbers part).entry

-- the block to which a way leads in a cell with these numbers and exits
abbrev pub block_on : List BlockNumbers → (moment : ℕ) → Exits → (parts : List ℕ) → Way → ℕ
block_on numbers moment exits parts (Into place) = entry_or numbers (slice_get parts place) exits.hit
block_on numbers moment exits parts Moment = moment
block_on numbers moment exits parts (Out outcome) = if outcome then exits.hit else exits.miss

-- where the part at a place was left so
abbrev pub block_behind : List BlockNumbers → (moment : ℕ) → Exits → Cell → (place : ℕ) → (outcome : Bool) → ℕ
block_behind numbers moment exits cell place outcome =
    block_on numbers moment exits cell.parts (behind cell.kind (length cell.parts) place outcome)

-- the exits of a part, by its cell with this number
abbrev pub handed : List BlockNumbers → (number : ℕ) → Exits → Cell → (place : ℕ) → Exits
handed numbers number exits cell place =
    record {
      hit = block_behind numbers (numbers_at numbers number).moment exits cell place true;
      miss = block_behind numbers (numbers_at numbers number).moment exits cell place false;
      broken = if is_broken cell.kind place then exits.hit else exits.broken;
      continued = if is_loop_body cell.kind place then block_behind numbers (numbers_at numbers number).moment exits cell place true else exits.continued;
      body = if is_body cell.kind then Some number else exits.body;
      chooser = if ends_cases cell.kind then Some number else exits.chooser;
    }

-- what becomes of the exits of all cells where the parts of one, of which the first stands at this place, are told theirs
abbrev pub with_handed : List BlockNumbers → (number : ℕ) → Exits → Cell → (place : ℕ) → List ℕ → List Exits → List Exits
with_handed numbers number exits cell place [] all = all
with_handed numbers number exits cell place (part ∷ parts) all =
    with_handed numbers number exits cell (place + 1) parts (slice_set all part (handed numbers number exits cell place))

-- all lead to this block, and nothing is around
abbrev pub exits_to : (closing : ℕ) → Exits
exits_to closing = record { hit = closing; miss = closing; broken = closing; continued = closing; body = None; chooser = None }

abbrev pub exits_at : List Exits → (number : ℕ) → Exits
exits_at all number = get_or all number (exits_to 0)

-- The last cell leads to the closing brace, and each part as its cell says.
pub record AreExits (cells : List Cell) (numbers : List BlockNumbers) (closing : ℕ) (all : List Exits) : Type 0 where
  pub count : length all ≡ length cells
  pub root : 0 < length cells → slice_get all (length cells - 1) ≡ Some (exits_to closing)
  pub parts : (number place part : ℕ) → HasPart cells number place part
      → slice_get all part ≡ Some (handed numbers number (exits_at all number) (cell_at cells number) place)
