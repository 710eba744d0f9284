-- Where the blocks of a cell stand among those of all.
use Rattle.std.proofs.Common.{◌≡◌, ℕ, zero, suc, ◌+◌, ◌-◌, ◌<◌, ◌≤◌, Bool, true, false, List, [], ◌∷◌, ◌++◌, Some, length, get_or, slice_get, refl, sym, ap, subst, ◌∙◌, append-nil, append_assoc, arith, length-append, if◌then◌else◌}
use Rattle.std.proofs.lemmas.List.{get_or_push, length_push}
use Rattle.std.proofs.lemmas.Option.{none-some, same_Some}
use Rattle.meaning_paths.specs.Graphs.{BasicBlock, empty_block}
use Rattle.meaning_control.specs.laws.Cells.{Cell, Tables, stops}
use Rattle.control_cells.specs.Blocks.{blocks_after, blocks_in_cell, closing_block, entry_block, first_block, graph_by, if_there, moment_block}
use Rattle.control_cells.specs.Numbers.{blocks_behind, blocks_in, closing_of, entry_of_first, no_numbers, numbers_at, numbers_from, numbers_of, numbers_row, one_if}
use Rattle.control_cells.specs.Seen.{may_have_moment}
use Rattle.control_cells.specs.declared.numbers.BlockNumbers.{BlockNumbers}
use Rattle.control_cells.proofs.TableLemmas.{numbers-kept}

-- Lists

get_or-in : (front back : List BasicBlock) (block : BasicBlock) (place : ℕ) → length front ≡ place → get_or (front ++ block ∷ back) place empty_block ≡ block
get_or-in [] back block zero is = refl
get_or-in [] back block (suc place) is = absurd (omega (arith, is))
get_or-in (first ∷ front) back block zero is = absurd (omega (arith, is))
get_or-in (first ∷ front) back block (suc place) is = get_or-in front back block place (omega (arith, is))

length-if_there : (test : Bool) (block : BasicBlock) → length (if_there test block) ≡ one_if test
length-if_there true block = refl
length-if_there false block = refl

module _ (tables : Tables) where
  -- those of cells of which the first has this number
  abbrev blocks_from : (number : ℕ) → List Cell → List BasicBlock
  blocks_from number [] = []
  blocks_from number (cell ∷ cells) = blocks_in_cell tables number cell ++ blocks_from (number + 1) cells

  after-is : (front : List BasicBlock) (number : ℕ) (cells : List Cell) → blocks_after tables front number cells ≡ front ++ blocks_from number cells
  after-is front number [] = sym (append-nil front)
  after-is front number (cell ∷ cells) =
      after-is (front ++ blocks_in_cell tables number cell) (number + 1) cells ∙ append_assoc front (blocks_in_cell tables number cell) (blocks_from (number + 1) cells)

  graph-is : (brace : ℕ) (cells : List Cell)
      → graph_by tables brace cells ≡ first_block tables (length cells - 1) ∷ (blocks_from 0 cells ++ closing_block brace ∷ [])
  graph-is brace cells = ap (λ front. front ++ closing_block brace ∷ []) (after-is (first_block tables (length cells - 1) ∷ []) 0 cells)

  length-in_cell : (number : ℕ) (cell : Cell) → length (blocks_in_cell tables number cell) ≡ blocks_in cell
  length-in_cell number cell =
      length-append (if_there (stops cell) (entry_block tables number cell)) (if_there (may_have_moment cell.kind (length cell.parts)) (moment_block tables number cell))
      ∙ omega (
        arith,
        length-if_there (stops cell) (entry_block tables number cell),
        length-if_there (may_have_moment cell.kind (length cell.parts)) (moment_block tables number cell),
      )

  length-blocks : (next number : ℕ) (cells : List Cell) → next + length (blocks_from number cells) ≡ blocks_behind next cells
  length-blocks next number [] = omega arith
  length-blocks next number (cell ∷ cells) =
      omega (arith, length-append (blocks_in_cell tables number cell) (blocks_from (number + 1) cells), length-in_cell number cell)
      ∙ length-blocks (next + blocks_in cell) (number + 1) cells

  -- the blocks of a cell in front of others
  module _ (front back : List BasicBlock) (number : ℕ) (cell : Cell) (own : BlockNumbers) (next : ℕ) (stands : length front ≡ next) where
    first_in : (test moment : Bool) (entry other : BasicBlock) → test ≡ true → get_or (front ++ ((if_there test entry ++ if_there moment other) ++ back)) next empty_block ≡ entry
    first_in true moment entry other is = get_or-in front (if_there moment other ++ back) entry next stands
    first_in false moment entry other is = absurd (cc is)

    second_in : (test moment : Bool) (entry other : BasicBlock) → moment ≡ true
        → get_or (front ++ ((if_there test entry ++ if_there moment other) ++ back)) (next + one_if test) empty_block ≡ other
    second_in test false entry other is = absurd (cc is)
    second_in true true entry other is =
        ap (λ list. get_or list (next + 1) empty_block) (sym (append_assoc front (entry ∷ []) (other ∷ back)))
        ∙ get_or-in (front ++ entry ∷ []) back other (next + 1) (omega (arith, length_push front entry, stands))
    second_in false true entry other is = get_or-in front back other (next + 0) (omega (arith, stands))

  abbrev Whole : List BasicBlock → ℕ → List Cell → List BasicBlock → List BasicBlock
  Whole front number cells back = front ++ (blocks_from number cells ++ back)

  -- what holds of the blocks of one cell, wherever it stands
  pub record HasBlocks (all : List BasicBlock) (own : BlockNumbers) (number : ℕ) (cell : Cell) : Type 0 where
    pub entry : stops cell ≡ true → get_or all own.entry empty_block ≡ entry_block tables number cell
    pub moment : may_have_moment cell.kind (length cell.parts) ≡ true → get_or all own.moment empty_block ≡ moment_block tables number cell

  entry-own : (next first : ℕ) (test : Bool) → test ≡ true → (if test then next else first) ≡ next
  entry-own next first true is = refl
  entry-own next first false is = absurd (cc is)

  here : (front back : List BasicBlock) (numbers : List BlockNumbers) (next number : ℕ) (first : Cell) (cells : List Cell) → length front ≡ next → length numbers ≡ number
      → HasBlocks (Whole front number (first ∷ cells) back) (numbers_at (numbers_from numbers next (first ∷ cells)) number) number first
  here front back numbers next number first cells stands is =
      subst (λ own. HasBlocks (Whole front number (first ∷ cells) back) own number first) (sym row)
      (record {
        entry = λ test.
            ap (λ place. get_or (Whole front number (first ∷ cells) back) place empty_block) (entry-own next (entry_of_first numbers first.parts) (stops first) test)
            ∙ regroup next
            ∙ first_in front (blocks_from (number + 1) cells ++ back) number first (numbers_row numbers next first) next stands (stops first)
            (may_have_moment first.kind (length first.parts)) (entry_block tables number first) (moment_block tables number first) test;
        moment = λ test.
            regroup (next + one_if (stops first))
            ∙ second_in front (blocks_from (number + 1) cells ++ back) number first (numbers_row numbers next first) next stands (stops first)
            (may_have_moment first.kind (length first.parts)) (entry_block tables number first) (moment_block tables number first) test;
      })
    where
      row : numbers_at (numbers_from numbers next (first ∷ cells)) number ≡ numbers_row numbers next first
      row =
          numbers-kept (numbers ++ numbers_row numbers next first ∷ []) (next + blocks_in first) cells number (omega (arith, length_push numbers (numbers_row numbers next first), is))
          ∙ get_or_push numbers (numbers_row numbers next first) no_numbers number is

      regroup : (place : ℕ) → get_or (Whole front number (first ∷ cells) back) place empty_block
          ≡ get_or (front ++ (blocks_in_cell tables number first ++ (blocks_from (number + 1) cells ++ back))) place empty_block
      regroup place =
          ap (λ list. get_or (front ++ list) place empty_block) (append_assoc (blocks_in_cell tables number first) (blocks_from (number + 1) cells) back)

  has_blocks : (front back : List BasicBlock) (numbers : List BlockNumbers) (next begin : ℕ) (cells : List Cell) (k : ℕ) (cell : Cell) (number : ℕ)
      → length front ≡ next → length numbers ≡ begin → slice_get cells k ≡ Some cell → number ≡ begin + k
      → HasBlocks (Whole front begin cells back) (numbers_at (numbers_from numbers next cells) number) number cell
  has_blocks front back numbers next begin [] k cell number stands is has at = absurd (none-some cell has)
  has_blocks front back numbers next begin (first ∷ cells) zero cell number stands is has at =
      let same : begin ≡ number = omega (arith, at) in
      subst (λ n. HasBlocks (Whole front begin (first ∷ cells) back) (numbers_at (numbers_from numbers next (first ∷ cells)) n) n cell) same
      (subst (λ c. HasBlocks (Whole front begin (first ∷ cells) back) (numbers_at (numbers_from numbers next (first ∷ cells)) begin) begin c) (same_Some first cell has)
      (here front back numbers next begin first cells stands is))
  has_blocks front back numbers next begin (first ∷ cells) (suc k) cell number stands is has at =
      subst (λ all. HasBlocks all (numbers_at (numbers_from numbers next (first ∷ cells)) number) number cell) (sym regroup)
      (has_blocks (front ++ blocks_in_cell tables begin first) back (numbers ++ numbers_row numbers next first ∷ []) (next + blocks_in first) (begin + 1) cells k cell number
      (length-append front (blocks_in_cell tables begin first) ∙ omega (arith, stands, length-in_cell begin first))
      (omega (arith, length_push numbers (numbers_row numbers next first), is)) has (omega (arith, at)))
    where
      regroup : Whole front begin (first ∷ cells) back ≡ Whole (front ++ blocks_in_cell tables begin first) (begin + 1) cells back
      regroup =
          ap (λ list. front ++ list) (append_assoc (blocks_in_cell tables begin first) (blocks_from (begin + 1) cells) back)
          ∙ sym (append_assoc front (blocks_in_cell tables begin first) (blocks_from (begin + 1) cells ++ back))

  -- In the whole graph

  pub blocks_of_cell : (brace : ℕ) (cells : List Cell) (number : ℕ) (cell : Cell) → slice_get cells number ≡ Some cell
      → HasBlocks (graph_by tables brace cells) (numbers_at (numbers_of cells) number) number cell
  blocks_of_cell brace cells number cell has =
      subst (λ all. HasBlocks all (numbers_at (numbers_of cells) number) number cell) (sym (graph-is brace cells))
      (has_blocks (first_block tables (length cells - 1) ∷ []) (closing_block brace ∷ []) [] 1 0 cells number cell number refl refl has (omega arith))

  pub closes : (brace : ℕ) (cells : List Cell) → get_or (graph_by tables brace cells) (closing_of cells) empty_block ≡ closing_block brace
  closes brace cells =
      ap (λ all. get_or all (closing_of cells) empty_block) (graph-is brace cells)
      ∙ get_or-in (first_block tables (length cells - 1) ∷ blocks_from 0 cells) [] (closing_block brace) (closing_of cells)
      (omega (arith, length-blocks 1 0 cells))

  pub length-graph : (brace : ℕ) (cells : List Cell) → length (graph_by tables brace cells) ≡ closing_of cells + 1
  length-graph brace cells =
      ap length (graph-is brace cells)
      ∙ omega (arith, length-append (blocks_from 0 cells) (closing_block brace ∷ []), length-blocks 1 0 cells)

  pub opens : (brace : ℕ) (cells : List Cell) → get_or (graph_by tables brace cells) 0 empty_block ≡ first_block tables (length cells - 1)
  opens brace cells = ap (λ all. get_or all 0 empty_block) (graph-is brace cells)
