-- The pass over cells: those from a number on have told their parts where they lead.
use Rattle.std.proofs.Common.{◌≡◌, ℕ, zero, suc, refl, ◌+◌, ◌-◌, ◌<◌, ◌≤◌, ◌⊎◌, inl, inr, All, List, [], ◌∷◌, Some, length, get_or, slice_get, unwrap_or, replicate, sym, ap, ap₂, subst, ◌∙◌, arith}
use Rattle.std.proofs.lemmas.Bool.{cases_lt}
use Rattle.std.proofs.lemmas.List.{length-replicate}
use Rattle.std.specs.Option.{option_map}
use Rattle.std.proofs.lemmas.Option.{none-some, slice_get-map, slice_get_past, slice_get_read, get_or_from_slice_get, unwrap_or-slice_get}
use Rattle.sparse_model.specs.declared.ids.NameId.{NameId}
use Rattle.meaning_control.specs.laws.Cells.{Cell}
use Rattle.control_cells.specs.Exits.{AreExits, EachIsPartOnce, HasPart, exits_at, exits_to, handed, with_handed}
use Rattle.control_cells.specs.Seen.{cell_at, cell_seen, cells_seen, no_cell}
use Rattle.control_cells.specs.declared.cell.Cell.{Cell as KeptCell}
use Rattle.control_cells.specs.declared.exits.Exits.{Exits}
use Rattle.control_cells.specs.declared.numbers.BlockNumbers.{BlockNumbers}
use Rattle.control_cells.proofs.PartLemmas.{length-with_handed, with_handed-other, with_handed-told}

-- so many times the same
slice_get-replicate : {X : Type 0} (count : ℕ) (x : X) (place : ℕ) → place < count → slice_get (replicate count x) place ≡ Some x
slice_get-replicate zero x place within = absurd (omega (arith, within))
slice_get-replicate (suc count) x zero within = refl
slice_get-replicate (suc count) x (suc place) within = slice_get-replicate count x place (omega (arith, within))

-- the cells from the first one on have told their parts
pub record HaveTold (cells : List Cell) (numbers : List BlockNumbers) (closing first : ℕ) (exits : List Exits) : Type 0 where
  pub count : length exits ≡ length cells
  pub root : 0 < length cells → slice_get exits (length cells - 1) ≡ Some (exits_to closing)
  pub parts : (number place part : ℕ) → first ≤ number → HasPart cells number place part
      → slice_get exits part ≡ Some (handed numbers number (exits_at exits number) (cell_at cells number) place)

-- behind the last cell there are no parts
no_part : (cells : List Cell) (number place part : ℕ) → length cells ≤ number → HasPart cells number place part → ⊥
no_part cells number place part past has =
    none-some part
    (ap (λ (cell : Cell). slice_get cell.parts place)
    (sym (sym (unwrap_or-slice_get cells number no_cell) ∙ ap (λ found. unwrap_or found no_cell) (slice_get_past cells number past)))
    ∙ has)

pub number_within : (cells : List Cell) (number place part : ℕ) → HasPart cells number place part → number < length cells
number_within cells number place part has =
    elim (cases_lt number (length cells)) [
      | inl within ↦ within
      | inr past ↦ absurd (no_part cells number place part past has)
    ]

-- lists that agree at a cell
exits_at-same : (exits others : List Exits) (number : ℕ) → slice_get exits number ≡ slice_get others number → exits_at exits number ≡ exits_at others number
exits_at-same exits others number same =
    sym (unwrap_or-slice_get exits number (exits_to 0))
    ∙ ap (λ found. unwrap_or found (exits_to 0)) same
    ∙ unwrap_or-slice_get others number (exits_to 0)

-- at first none has
pub none_told : (cells : List Cell) (numbers : List BlockNumbers) (closing count : ℕ) (exits : List Exits) → count ≡ length cells
    → exits ≡ replicate count (exits_to closing) → HaveTold cells numbers closing count exits
none_told cells numbers closing count exits whole is = record {
  count = ap length is ∙ length-replicate count (exits_to closing) ∙ whole;
  root = λ some. ap (λ all. slice_get all (length cells - 1)) is ∙ slice_get-replicate count (exits_to closing) (length cells - 1) (omega (arith, some, whole));
  parts = λ number place part past has. absurd (no_part cells number place part (omega (arith, past, whole)) has);
}

-- one more
module _ (cells : List Cell) (each : EachIsPartOnce cells) (numbers : List BlockNumbers) (closing : ℕ) (exits : List Exits) (number : ℕ)
    (within : number < length cells) (have : HaveTold cells numbers closing (number + 1) exits) where
  abbrev told : List Exits
  told = with_handed numbers number (exits_at exits number) (cell_at cells number) 0 (cell_at cells number).parts exits

  told-length : length told ≡ length exits
  told-length = length-with_handed numbers number (exits_at exits number) (cell_at cells number) 0 (cell_at cells number).parts exits

  -- what is no part of the cell stays
  told-other : (other : ℕ) → ((place part : ℕ) → HasPart cells number place part → part ≡ other → ⊥) → slice_get told other ≡ slice_get exits other
  told-other other none =
      with_handed-other numbers number (exits_at exits number) (cell_at cells number) 0 (cell_at cells number).parts exits other none

  -- so does the cell, and what stands behind it
  told-behind : (other : ℕ) → number ≤ other → slice_get told other ≡ slice_get exits other
  told-behind other behind = told-other other (λ place part has same. absurd (omega (arith, behind, each.before number place part has, same)))

  told-at : (other : ℕ) → number ≤ other → exits_at exits other ≡ exits_at told other
  told-at other behind = exits_at-same exits told other (sym (told-behind other behind))

  -- its own parts are told
  own_part : (place part : ℕ) → HasPart cells number place part
      → slice_get told part ≡ Some (handed numbers number (exits_at told number) (cell_at cells number) place)
  own_part place part has =
      with_handed-told numbers number (exits_at exits number) (cell_at cells number) 0 (cell_at cells number).parts exits place part has
      (omega (arith, each.before number place part has, within, have.count))
      (λ other later is same.
      (each.once number other number place part (subst (λ (p : ℕ). HasPart cells number other p) same is) has).1)
      ∙ ap₂ (λ at around. Some (handed numbers number around (cell_at cells number) at)) (omega arith)
      (told-at number (omega arith))

  -- and those of the cells behind it stay told
  later_part : (other place part : ℕ) → number + 1 ≤ other → HasPart cells other place part
      → slice_get told part ≡ Some (handed numbers other (exits_at told other) (cell_at cells other) place)
  later_part other place part behind has =
      told-other part
      (λ elsewhere later is same.
      absurd (omega (arith, behind, (each.once number elsewhere other place part (subst (λ (p : ℕ). HasPart cells number elsewhere p) same is) has).0)))
      ∙ have.parts other place part behind has
      ∙ ap (λ around. Some (handed numbers other around (cell_at cells other) place)) (told-at other (omega (arith, behind)))

  this_or_later : (other : ℕ) → number ≤ other → (number ≡ other) ⊎ (number + 1 ≤ other)
  this_or_later other behind = grind arith

  pub one_more_told : HaveTold cells numbers closing number told
  one_more_told = record {
    count = told-length ∙ have.count;
    root = λ some. told-behind (length cells - 1) (omega (arith, within)) ∙ have.root some;
    parts = λ other place part behind has.
        elim (this_or_later other behind) [
          | inl this ↦
              subst (λ (n : ℕ). HasPart cells n place part
              → slice_get told part ≡ Some (handed numbers n (exits_at told n) (cell_at cells n) place)) this (own_part place part) has
          | inr later ↦ later_part other place part later has
        ];
  }

pub all_told : (cells : List Cell) (numbers : List BlockNumbers) (closing : ℕ) (exits : List Exits) → HaveTold cells numbers closing 0 exits
    → AreExits cells numbers closing exits
all_told cells numbers closing exits have =
    record { count = have.count; root = have.root; parts = λ number place part has. have.parts number place part (omega arith) has }

-- As the code has cells

pub slice_get-get_or : {X : Type 0} (xs : List X) (place : ℕ) (d : X) → place < length xs → slice_get xs place ≡ Some (get_or xs place d)
slice_get-get_or [] place d within = absurd (omega (arith, within))
slice_get-get_or (x ∷ xs) zero d within = refl
slice_get-get_or (x ∷ xs) (suc place) d within = slice_get-get_or xs place d (omega (arith, within))

-- a cell is seen as it is kept
pub cell_at-seen : (names : NameId → List ℕ) (cells : List KeptCell) (number : ℕ) (cell : KeptCell) → number < length cells → cell ≡ get_or cells number cell
    → cell_at (cells_seen names cells) number ≡ cell_seen names cell
cell_at-seen names cells number cell within read =
    get_or_from_slice_get (cells_seen names cells) number (cell_seen names cell) no_cell
    (slice_get-map (cell_seen names) cells number ∙ ap (option_map (cell_seen names)) (slice_get_read cells (length cells) number cell refl within read))

-- its parts stand before it
pub parts_before : (cells : List Cell) (each : EachIsPartOnce cells) (number : ℕ) (cell : Cell) → cell_at cells number ≡ cell → All (λ part. part < number) cell.parts
parts_before cells each number cell is =
    λ k d below. each.before number k (get_or cell.parts k d) (ap (λ (c : Cell). slice_get c.parts k) is ∙ slice_get-get_or cell.parts k d below)

-- one more cell has told its parts
pub next_told : (cells : List Cell) (each : EachIsPartOnce cells) (numbers : List BlockNumbers) (closing : ℕ) (exits later : List Exits) (number : ℕ) (cell : Cell)
    → 0 < number → number - 1 < length cells → cell_at cells (number - 1) ≡ cell
    → later ≡ with_handed numbers (number - 1) (exits_at exits (number - 1)) cell 0 cell.parts exits
    → HaveTold cells numbers closing number exits → HaveTold cells numbers closing (number - 1) later
next_told cells each numbers closing exits later number cell some within is told have =
    let next : number ≡ number - 1 + 1 = omega (arith, some) in
    subst (HaveTold cells numbers closing (number - 1))
    (ap (λ (c : Cell). with_handed numbers (number - 1) (exits_at exits (number - 1)) c 0 c.parts exits) is ∙ sym told)
    (one_more_told cells each numbers closing exits (number - 1) within (subst (λ (n : ℕ). HaveTold cells numbers closing n exits) next have))
