-- Items that wait, as rows of which some are left.
use Rattle.std.specs.Prelude.{◌≡◌, ◌≤◌, ℕ, ◌^◌, Bool, true, nat_le, List, [], ◌∷◌, ◌++◌, reverse, length, take}
use Rattle.std.specs.List.{list_all}
use Rattle.vocabulary.specs.declared.production_item.ProductionItem.{ProductionItem}
use Rattle.meaning_derivation.specs.Derivation.{symbols}
use Rattle.c_parse.specs.declared.pending.Row.{Row}
use Rattle.c_parse.specs.declared.pending.Counted.{Counted}

-- the items of rows, one behind the other
abbrev pub items_in : List Row → List ProductionItem
items_in [] = []
items_in (row ∷ rows) = row.items.now ++ items_in rows

-- those of the row in front, and behind it of rows of which the last one comes next
abbrev pub waiting : Row → List Row → List ProductionItem
waiting front rows = front.items.now ++ items_in (reverse rows)

-- no row of the grammar is longer
abbrev pub is_short : Row → Bool
is_short row = nat_le (length row.items.now) 15

abbrev pub most_waiting : ℕ
most_waiting = 2 ^ 40

-- the rows that come last, as many as were counted, have so many symbols
pub record AreCounted (rows : List Row) (counted : Counted) : Type 0 where
  pub within : counted.rows ≤ length rows
  pub sum : counted.symbols ≡ symbols (items_in (take counted.rows rows))

-- so it was where this row came before so many others
abbrev pub WereCounted : Counted → (left : ℕ) → Row → Type 0
WereCounted counted left row = (rows : List Row) × (length rows ≡ left) × AreCounted (rows ++ row ∷ []) counted

pub record IsPending (front : Row) (rows : List Row) (counted : Counted) : Type 0 where
  pub are : AreCounted rows counted
  pub short : length front.items.now ≤ 15
  pub all_short : list_all is_short rows ≡ true
  pub few : length rows ≤ 2 ^ 32
