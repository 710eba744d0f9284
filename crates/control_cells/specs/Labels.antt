-- Lists of labels by the numbers of cells.
use Rattle.std.specs.Prelude.{◌≡◌, ◌↔◌, ℕ, ◌<◌, List, [], ◌∷◌, ◌++◌, map, length, get_or, slice_set, Option, Some, None, if◌then◌else◌}
use Rattle.std.specs.Global.{Vec}
use Rattle.meaning_paths.specs.Walks.{IsIn}
use Rattle.meaning_control.specs.Kinds.{ControlKind, is_label, is_case}
use Rattle.meaning_control.specs.laws.Cells.{Cell}
use Rattle.control_cells.specs.Exits.{exits_at}
use Rattle.control_cells.specs.Seen.{cell_at}
use Rattle.control_cells.specs.declared.exits.Exits.{Exits}

-- Lists by numbers

abbrev pub rows : List (Vec ℕ) → List (List ℕ)
rows lists = map (λ list. list.items) lists

abbrev pub row_at : List (List ℕ) → (place : ℕ) → List ℕ
row_at lists place = get_or lists place []

abbrev pub with_pushed : List (List ℕ) → (place number : ℕ) → List (List ℕ)
with_pushed lists place number = slice_set lists place (row_at lists place ++ number ∷ [])

-- Owners

-- the cell whose label one with such exits is
abbrev pub owner : ControlKind → Exits → Option ℕ
owner kind exits = if is_label kind then exits.body else (if is_case kind then exits.chooser else None)

abbrev pub owner_at : List Cell → List Exits → (number : ℕ) → Option ℕ
owner_at cells exits number = owner (cell_at cells number).kind (exits_at exits number)

-- each list has those of the first so many cells that are its cell's labels
pub record AreOwned (cells : List Cell) (exits : List Exits) (count : ℕ) (lists : List (List ℕ)) : Type 0 where
  pub length_is : length lists ≡ length cells
  pub each : (place label : ℕ) → place < length cells → IsIn label (row_at lists place) ↔ ((label < count) × (owner_at cells exits label ≡ Some place))
