-- Each cell of a tree stands behind its parts, and has one row in each list.
use Rattle.std.proofs.Common.{◌≡◌, inl, inr, ℕ, zero, suc, ◌+◌, ◌<◌, ◌≤◌, List, [], ◌∷◌, ◌++◌, Some, length, get_or, slice_get, refl, sym, ap, ◌∙◌, arith}
use Rattle.std.specs.Option.{option_map}
use Rattle.std.proofs.lemmas.Bool.{cases_lt}
use Rattle.std.proofs.lemmas.List.{get_or_push, length_push}
use Rattle.std.proofs.lemmas.Option.{get_or_from_slice_get, none-some, same_Some, slice_get-map}
use Rattle.sparse_model.specs.declared.ids.NameId.{NameId}
use Rattle.meaning_control.specs.laws.Cells.{Cell}
use Rattle.control_cells.specs.Exits.{EachIsPartOnce}
use Rattle.control_cells.specs.Numbers.{StandBehindParts, blocks_in, numbers_from, numbers_row}
use Rattle.control_cells.specs.Seen.{cell_at, cell_seen, cells_seen, no_cell}
use Rattle.control_cells.specs.Trees.{first_at, first_by, firsts_from, firsts_of}
use Rattle.control_cells.specs.declared.cell.Cell.{Cell as KeptCell}
use Rattle.control_cells.specs.declared.numbers.BlockNumbers.{BlockNumbers}
use Rattle.control_cells.proofs.ListLemmas.{get_or-more}
use Rattle.control_cells.proofs.PassLemmas.{slice_get-get_or}

-- the parts of each of these cells stand before it, where the first one has this number
abbrev PartsBefore : (number : ℕ) → List KeptCell → Type 0
PartsBefore number kept =
    (k place part : ℕ) (cell : KeptCell) → slice_get kept k ≡ Some cell → slice_get cell.parts.items place ≡ Some part → part < number + k

each_behind : (number : ℕ) (kept : List KeptCell) → PartsBefore number kept → StandBehindParts number kept
each_behind number [] before = tt
each_behind number (cell ∷ kept) before = (
  (λ k d below. omega (arith, before 0 k (get_or cell.parts.items k d) cell refl (slice_get-get_or cell.parts.items k d below))),
  each_behind (number + 1) kept (λ k place part other has at. omega (arith, before (suc k) place part other has at)),
)

pub stand_behind : (names : NameId → List ℕ) (kept : List KeptCell) → EachIsPartOnce (cells_seen names kept) → StandBehindParts 0 kept
stand_behind names kept each =
    each_behind 0 kept
    (λ k place part cell has at.
    let seen : cell_at (cells_seen names kept) k ≡ cell_seen names cell =
    get_or_from_slice_get (cells_seen names kept) k (cell_seen names cell) no_cell
    (slice_get-map (cell_seen names) kept k ∙ ap (option_map (cell_seen names)) has) in
    omega (arith, each.before k place part (ap (λ (it : Cell). slice_get it.parts place) seen ∙ at)))

pub length-numbers : (numbers : List BlockNumbers) (next : ℕ) (cells : List Cell) → length (numbers_from numbers next cells) ≡ length numbers + length cells
length-numbers numbers next [] = omega arith
length-numbers numbers next (cell ∷ cells) =
    length-numbers (numbers ++ numbers_row numbers next cell ∷ []) (next + blocks_in cell) cells ∙ omega (arith, length_push numbers (numbers_row numbers next cell))

pub length-firsts : (firsts : List ℕ) (cells : List Cell) → length (firsts_from firsts cells) ≡ length firsts + length cells
length-firsts firsts [] = omega arith
length-firsts firsts (cell ∷ cells) =
    length-firsts (firsts ++ first_by firsts (length firsts) cell.parts ∷ []) cells ∙ omega (arith, length_push firsts (first_by firsts (length firsts) cell.parts))

-- Where the cells below one begin

firsts-kept : (firsts : List ℕ) (cells : List Cell) (k : ℕ) → k < length firsts → get_or (firsts_from firsts cells) k 0 ≡ get_or firsts k 0
firsts-kept firsts [] k within = refl
firsts-kept firsts (cell ∷ cells) k within =
    firsts-kept (firsts ++ first_by firsts (length firsts) cell.parts ∷ []) cells k (omega (arith, within, length_push firsts (first_by firsts (length firsts) cell.parts)))
    ∙ get_or-more firsts (first_by firsts (length firsts) cell.parts) 0 k within

abbrev AtMost : List ℕ → Type 0
AtMost firsts = (k : ℕ) → k < length firsts → get_or firsts k 0 ≤ k

row_at_most : (firsts : List ℕ) (parts : List ℕ) → AtMost firsts → ((place part : ℕ) → slice_get parts place ≡ Some part → part < length firsts)
    → first_by firsts (length firsts) parts ≤ length firsts
row_at_most firsts [] most before = omega arith
row_at_most firsts (part ∷ parts) most before = omega (arith, most part (before 0 part refl), before 0 part refl)

more_at_most : (firsts : List ℕ) (row : ℕ) → AtMost firsts → row ≤ length firsts → AtMost (firsts ++ row ∷ [])
more_at_most firsts row most fits k within =
    elim (cases_lt k (length firsts)) [
      | inl before ↦ omega (arith, get_or-more firsts row 0 k before, most k before)
      | inr last ↦
          let here : length firsts ≡ k = omega (arith, last, within, length_push firsts row) in
          omega (arith, get_or_push firsts row 0 k here, fits, here)
    ]

all_at_most : (firsts : List ℕ) (cells : List Cell) → AtMost firsts
    → ((k place part : ℕ) (cell : Cell) → slice_get cells k ≡ Some cell → slice_get cell.parts place ≡ Some part → part < length firsts + k)
    → AtMost (firsts_from firsts cells)
all_at_most firsts [] most before = most
all_at_most firsts (cell ∷ cells) most before =
    all_at_most (firsts ++ first_by firsts (length firsts) cell.parts ∷ []) cells
    (more_at_most firsts (first_by firsts (length firsts) cell.parts) most (row_at_most firsts cell.parts most (λ place part at. omega (arith, before 0 place part cell refl at))))
    (λ k place part other has at. omega (arith, before (suc k) place part other has at, length_push firsts (first_by firsts (length firsts) cell.parts)))

pub first_below : (cells : List Cell) → EachIsPartOnce cells → (number : ℕ) → number < length cells → first_at (firsts_of cells) number ≤ number
first_below cells each number within =
    all_at_most [] cells (λ k none. absurd (omega (arith, none)))
    (λ k place part cell has at.
    omega (arith, each.before k place part (ap (λ (it : Cell). slice_get it.parts place) (get_or_from_slice_get cells k cell no_cell has) ∙ at)))
    number (omega (arith, within, length-firsts [] cells))

-- a cell begins where its first part does, and one without parts at itself
abbrev pub begin_by : (begin : ℕ → ℕ) → (number : ℕ) → (parts : List ℕ) → ℕ
begin_by begin number [] = number
begin_by begin number (part ∷ parts) = begin part

first-row : (firsts : List ℕ) (cells : List Cell) (k number : ℕ) (cell : Cell) → slice_get cells k ≡ Some cell → number ≡ length firsts + k
    → ((place part : ℕ) → slice_get cell.parts place ≡ Some part → part < number)
    → first_at (firsts_from firsts cells) number ≡ begin_by (first_at (firsts_from firsts cells)) number cell.parts
first-row firsts [] k number cell has is before = absurd (none-some cell has)
first-row firsts (own ∷ cells) zero number cell has is before =
    firsts-kept (firsts ++ first_by firsts (length firsts) own.parts ∷ []) cells number (omega (arith, is, length_push firsts (first_by firsts (length firsts) own.parts)))
    ∙ get_or_push firsts (first_by firsts (length firsts) own.parts) 0 number (omega (arith, is))
    ∙ ap (λ (it : Cell). first_by firsts (length firsts) it.parts) (same_Some own cell has)
    ∙ by cell.parts before
  where
    by : (parts : List ℕ) → ((place part : ℕ) → slice_get parts place ≡ Some part → part < number)
        → first_by firsts (length firsts) parts ≡ begin_by (first_at (firsts_from firsts (own ∷ cells))) number parts
    by [] within = omega (arith, is)
    by (part ∷ parts) within = sym (firsts-kept firsts (own ∷ cells) part (omega (arith, is, within 0 part refl)))
first-row firsts (own ∷ cells) (suc k) number cell has is before =
    first-row (firsts ++ first_by firsts (length firsts) own.parts ∷ []) cells k number cell has
    (omega (arith, is, length_push firsts (first_by firsts (length firsts) own.parts))) before

pub first_is : (cells : List Cell) → EachIsPartOnce cells → (number : ℕ) (cell : Cell) → slice_get cells number ≡ Some cell
    → first_at (firsts_of cells) number ≡ begin_by (first_at (firsts_of cells)) number cell.parts
first_is cells each number cell has =
    first-row [] cells number number cell has (omega arith)
    (λ place part at. each.before number place part (ap (λ (it : Cell). slice_get it.parts place) (get_or_from_slice_get cells number cell no_cell has) ∙ at))
