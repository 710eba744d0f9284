-- Numbers and exits, cell by cell.
use Rattle.std.proofs.Common.{◌≡◌, ℕ, zero, suc, ◌+◌, ◌-◌, ◌<◌, Bool, true, false, List, [], ◌∷◌, ◌++◌, Option, Some, None, length, slice_get, refl, sym, ap, ◌∙◌, arith, if◌then◌else◌}
use Rattle.std.proofs.lemmas.List.{get_or_push, length_push}
use Rattle.std.proofs.lemmas.Option.{none-some, same_Some, get_or_from_slice_get}
use Rattle.meaning_control.specs.Kinds.{is_body, is_case, is_label, is_loop_body, is_statement}
use Rattle.meaning_control.specs.Rows.{Way, Into, Moment, Out, behind}
use Rattle.meaning_control.specs.States.{ends_cases}
use Rattle.meaning_control.specs.laws.Cells.{AreTables, Cell, LabelledBlock, Tables, entry_or as entry_in, led_block, stops, is_without}
use Rattle.control_cells.specs.Exits.{AreExits, EachIsPartOnce, HasPart, block_behind, block_on, entry_or, exits_at, exits_to, handed}
use Rattle.control_cells.specs.Numbers.{blocks_in, closing_of, entry_of_first, no_numbers, numbers_at, numbers_from, numbers_of, numbers_row}
use Rattle.control_cells.specs.Seen.{cell_at, no_cell}
use Rattle.control_cells.specs.Tables.{tables_of}
use Rattle.control_cells.specs.Trees.{IsOneTree}
use Rattle.control_cells.specs.declared.exits.Exits.{Exits}
use Rattle.control_cells.specs.declared.numbers.BlockNumbers.{BlockNumbers}
use Rattle.control_cells.proofs.FoundLemmas.{found_of}
use Rattle.control_cells.proofs.ListLemmas.{get_or-more}
use Rattle.control_cells.proofs.SeenLemmas.{none_around, seen_of_part}

-- Numbers

-- numbers stay where those of more cells come behind them
pub numbers-kept : (numbers : List BlockNumbers) (next : ℕ) (cells : List Cell) (k : ℕ) → k < length numbers
    → numbers_at (numbers_from numbers next cells) k ≡ numbers_at numbers k
numbers-kept numbers next [] k within = refl
numbers-kept numbers next (cell ∷ cells) k within =
    numbers-kept (numbers ++ numbers_row numbers next cell ∷ []) (next + blocks_in cell) cells k
    (omega (arith, within, length_push numbers (numbers_row numbers next cell)))
    ∙ get_or-more numbers (numbers_row numbers next cell) no_numbers k within

-- the numbers of a cell are its row over those before it
pub record IsRowOf (all : List BlockNumbers) (number : ℕ) (cell : Cell) : Type 0 where
  pub before : List BlockNumbers
  pub next : ℕ
  pub count : length before ≡ number
  pub same : (k : ℕ) → k < number → numbers_at all k ≡ numbers_at before k
  pub row : numbers_at all number ≡ numbers_row before next cell

row-of : (numbers : List BlockNumbers) (next : ℕ) (cells : List Cell) (k : ℕ) (cell : Cell) (number : ℕ) → slice_get cells k ≡ Some cell → number ≡ length numbers + k
    → IsRowOf (numbers_from numbers next cells) number cell
row-of numbers next [] k cell number has is = absurd (none-some cell has)
row-of numbers next (first ∷ cells) zero cell number has is =
    let count : length numbers ≡ number = omega (arith, is) in
    let more : List BlockNumbers = numbers ++ numbers_row numbers next first ∷ [] in
    let within : number < length more = omega (arith, count, length_push numbers (numbers_row numbers next first)) in
    record {
      before = numbers;
      next = next;
      count = count;
      same = λ j below.
          numbers-kept more (next + blocks_in first) cells j (omega (arith, below, within))
          ∙ get_or-more numbers (numbers_row numbers next first) no_numbers j (omega (arith, below, count));
      row =
          numbers-kept more (next + blocks_in first) cells number within
          ∙ get_or_push numbers (numbers_row numbers next first) no_numbers number count
          ∙ ap (numbers_row numbers next) (same_Some first cell has);
    }
row-of numbers next (first ∷ cells) (suc k) cell number has is =
    row-of (numbers ++ numbers_row numbers next first ∷ []) (next + blocks_in first) cells k cell number has
    (omega (arith, is, length_push numbers (numbers_row numbers next first)))

-- a cell that isn't a statement has its first part's entry
entry-if : (number next : ℕ) (test : Bool) → test ≡ false → (if test then next else number) ≡ number
entry-if number next true is = absurd (cc is)
entry-if number next false is = refl

does-not-stop : (cell : Cell) (first : ℕ) (parts : List ℕ) (test : Bool) → test ≡ false → cell.parts ≡ first ∷ parts
    → (if test then true else is_without cell.parts) ≡ false
does-not-stop cell first parts true is has = absurd (cc is)
does-not-stop cell first parts false is has = ap is_without has

pub entry-first : (cells : List Cell) (each : EachIsPartOnce cells) (number first : ℕ) (parts : List ℕ) (cell : Cell) → slice_get cells number ≡ Some cell
    → cell.parts ≡ first ∷ parts → is_statement cell.kind ≡ false
    → (numbers_at (numbers_of cells) number).entry ≡ (numbers_at (numbers_of cells) first).entry
entry-first cells each number first parts cell has are is =
    let row = row-of [] 1 cells number cell number has (omega arith) in
    let part : HasPart cells number 0 first =
    ap (λ (c : Cell). slice_get c.parts 0) (get_or_from_slice_get cells number cell no_cell has) ∙ ap (λ (ps : List ℕ). slice_get ps 0) are in
    ap (λ (n : BlockNumbers). n.entry) row.row
    ∙ entry-if (entry_of_first row.before cell.parts) row.next (stops cell) (does-not-stop cell first parts (is_statement cell.kind) is are)
    ∙ ap (entry_of_first row.before) are
    ∙ ap (λ (n : BlockNumbers). n.entry) (sym (row.same first (each.before number 0 first part)))

-- Exits

-- tables by numbers and exits, whatever labels are
abbrev pub tables_by : List BlockNumbers → List Exits → (labels cases seen : ℕ → List LabelledBlock) → Tables
tables_by numbers exits labels cases seen =
    record {
      entry = λ number. (numbers_at numbers number).entry;
      moment = λ number. (numbers_at numbers number).moment;
      hit = λ number. (exits_at exits number).hit;
      miss = λ number. (exits_at exits number).miss;
      broken = λ number. (exits_at exits number).broken;
      continued = λ number. (exits_at exits number).continued;
      labels = labels;
      cases = cases;
      seen = seen;
    }

module _ (numbers : List BlockNumbers) (exits : List Exits) (labels cases seen : ℕ → List LabelledBlock) where
  into-tables : (number : ℕ) (part : Option ℕ)
      → entry_or numbers part (exits_at exits number).hit ≡ entry_in (tables_by numbers exits labels cases seen) part (exits_at exits number).hit
  into-tables number None = refl
  into-tables number (Some part) = refl

  -- what a way leads to is the same in tables
  pub on-tables : (number : ℕ) (parts : List ℕ) (way : Way)
      → block_on numbers (numbers_at numbers number).moment (exits_at exits number) parts way ≡ led_block (tables_by numbers exits labels cases seen) number parts way
  on-tables number parts (Into place) = into-tables number (slice_get parts place)
  on-tables number parts Moment = refl
  on-tables number parts (Out true) = refl
  on-tables number parts (Out false) = refl

module _ (cells : List Cell) (exits : List Exits) (are : AreExits cells (numbers_of cells) (closing_of cells) exits) where
  abbrev tables : Tables
  tables = tables_of cells (numbers_of cells) exits

  -- the exits of a part are handed to it
  exits-of : (number place part : ℕ) (cell : Cell) → slice_get cells number ≡ Some cell → slice_get cell.parts place ≡ Some part
      → exits_at exits part ≡ handed (numbers_of cells) number (exits_at exits number) cell place
  exits-of number place part cell has at =
      let is : cell_at cells number ≡ cell = get_or_from_slice_get cells number cell no_cell has in
      get_or_from_slice_get exits part _ (exits_to 0) (are.parts number place part (ap (λ (c : Cell). slice_get c.parts place) is ∙ at))
      ∙ ap (λ (c : Cell). handed (numbers_of cells) number (exits_at exits number) c place) is

  led-behind : (number place : ℕ) (cell : Cell) (outcome : Bool)
      → block_behind (numbers_of cells) (numbers_at (numbers_of cells) number).moment (exits_at exits number) cell place outcome
      ≡ led_block tables number cell.parts (behind cell.kind (length cell.parts) place outcome)
  led-behind number place cell outcome =
      on-tables (numbers_of cells) exits tables.labels tables.cases tables.seen number cell.parts (behind cell.kind (length cell.parts) place outcome)

  pub root-exits : 0 < length cells → exits_at exits (length cells - 1) ≡ exits_to (closing_of cells)
  root-exits some = get_or_from_slice_get exits (length cells - 1) (exits_to (closing_of cells)) (exits_to 0) (are.root some)

  pub keep : IsOneTree cells → AreTables cells (length cells - 1) (closing_of cells) tables
  keep tree =
      let root : exits_at exits (length cells - 1) ≡ exits_to (closing_of cells) = root-exits tree.some in
      record {
        first_part = entry-first cells tree.each;
        root_hit = ap (λ (e : Exits). e.hit) root;
        root_miss = ap (λ (e : Exits). e.miss) root;
        root_broken = ap (λ (e : Exits). e.broken) root;
        root_continued = ap (λ (e : Exits). e.continued) root;
        root_seen = none_around cells tree tables.labels (length cells - 1) (length cells) 0 (omega (arith, tree.some));
        hit_part = λ number place part cell has at.
            ap (λ (e : Exits). e.hit) (exits-of number place part cell has at) ∙ led-behind number place cell true;
        miss_part = λ number place part cell has at.
            ap (λ (e : Exits). e.miss) (exits-of number place part cell has at) ∙ led-behind number place cell false;
        broken_part = λ number place part cell has at. ap (λ (e : Exits). e.broken) (exits-of number place part cell has at);
        continued_part = λ number place part cell has at.
            ap (λ (e : Exits). e.continued) (exits-of number place part cell has at)
            ∙ ap (λ (block : ℕ). if is_loop_body cell.kind place then block else (exits_at exits number).continued)
            (sym (ap (λ (e : Exits). e.hit) (exits-of number place part cell has at)));
        seen_part = λ number place part cell has at.
            let is : cell_at cells number ≡ cell = get_or_from_slice_get cells number cell no_cell has in
            seen_of_part cells tree tables.labels number place part (ap (λ (c : Cell). slice_get c.parts place) is ∙ at)
            ∙ ap (λ (c : Cell). (if is_body c.kind then tables.labels number else []) ++ tables.seen number) is;
        labels_of = found_of is_label is_body cells tree tables.entry;
        cases_of = found_of is_case ends_cases cells tree tables.entry;
      }
