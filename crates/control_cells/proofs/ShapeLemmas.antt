-- The flow of a body is closed, and each of its blocks begins with a point, if anything is passed there.
use Rattle.std.proofs.Common.{◌≡◌, ◌⊎◌, inl, inr, ℕ, ℤ, zero, suc, ◌+◌, ◌-◌, ◌<◌, ◌≤◌, Bool, true, false, List, [], ◌∷◌, ◌++◌, Option, Some, None, length, get_or, slice_get, refl, sym, ap, subst, ◌∙◌, arith, if◌then◌else◌}
use Rattle.std.specs.Prelude.{nat_eq, ◌&&◌}
use Rattle.std.proofs.lemmas.Bool.{cases_lt}
use Rattle.std.proofs.lemmas.Option.{get_or_from_slice_get}
use Rattle.std.proofs.lemmas.List.{get_or_past, length-map}
use Rattle.sparse_model.specs.declared.ids.NameId.{NameId}
use Rattle.meaning_paths.specs.Walks.{IsIn}
use Rattle.meaning_paths.specs.Graphs.{BasicBlock, BeginsWithPoint, empty_block}
use Rattle.meaning_control.specs.Kinds as meaning
use Rattle.meaning_control.specs.Choices.{has_number, is_default, is_named, is_numbered, number_of, or_all, or_else, picked, places_of}
use Rattle.meaning_control.specs.Rows.{Going, On, Breaks, Continues, Jumps, Picks, Way, Into, Moment, Out, begins, behind, entry_steps, moment_steps, onward}
use Rattle.meaning_control.specs.laws.Cells.{Cell, LabelledBlock, Tables, all_gone_blocks, entry_or as entry_in, gone_block, led_block, stops}
use Rattle.control_flow.specs.Seen.{block_of, graph_of}
use Rattle.control_flow.specs.declared.flow.Flow.{Flow}
use Rattle.control_cells.specs.Blocks.{blocks_after, blocks_in_cell, closing_block, entry_block, first_block, graph_by, if_there, labelled, labelled_block, moment_block, tables_seen}
use Rattle.control_cells.specs.Exits.{AreExits, block_behind, block_on, entry_or, exits_at, exits_to, handed}
use Rattle.control_cells.specs.Flows.{IsWalkable, KeepsApart}
use Rattle.control_cells.specs.Labels.{row_at, rows}
use Rattle.control_cells.specs.Numbers.{blocks_behind, blocks_in, closing_of, entry_of_first, no_numbers, numbers_at, numbers_from, numbers_of, numbers_row}
use Rattle.control_cells.specs.Seen.{cell_at, cell_seen, cells_seen, kind_seen, may_have_moment}
use Rattle.control_cells.specs.Trees.{IsOneTree}
use Rattle.control_cells.specs.declared.cell.Cell.{Cell as KeptCell}
use Rattle.control_cells.specs.declared.exits.Exits.{Exits}
use Rattle.control_cells.specs.declared.kind.ControlKind.{ControlKind}
use Rattle.control_cells.specs.declared.kind.ControlKind.TheVariants as kinds
use Rattle.control_cells.specs.declared.numbers.BlockNumbers.{BlockNumbers}
use Rattle.control_cells.specs.declared.tables.CellTables.{CellTables}
use Rattle.control_cells.proofs.ChoiceLemmas.{mapped_from, places_from}
use Rattle.control_cells.proofs.FoundLemmas.{in_either}
use Rattle.control_cells.proofs.GraphLemmas.{length-graph}
use Rattle.control_cells.proofs.TableLemmas.{root-exits}

-- Lists

-- what holds of each element holds of those of two lists together
each-joined : {X : Type 0} (P : X → Type 0) (d : X) (xs ys : List X) → ((k : ℕ) → P (get_or xs k d)) → ((k : ℕ) → P (get_or ys k d)) → (k : ℕ) → P (get_or (xs ++ ys) k d)
each-joined P d [] ys one two k = two k
each-joined P d (x ∷ xs) ys one two zero = one 0
each-joined P d (x ∷ xs) ys one two (suc k) = each-joined P d xs ys (λ j. one (suc j)) two k

each-single : {X : Type 0} (P : X → Type 0) (d x : X) → P d → P x → (k : ℕ) → P (get_or (x ∷ []) k d)
each-single P d x none own zero = own
each-single P d x none own (suc k) = none

abbrev AllBelow : (bound : ℕ) → List ℕ → Type 0
AllBelow bound blocks = (block : ℕ) → IsIn block blocks → block < bound

one-below : (bound own : ℕ) → own < bound → AllBelow bound (own ∷ [])
one-below bound own below block (inl is) = omega (arith, below, is)
one-below bound own below block (inr none) = absurd none

joined-below : (bound : ℕ) (blocks others : List ℕ) → AllBelow bound blocks → AllBelow bound others → AllBelow bound (blocks ++ others)
joined-below bound blocks others one two block there =
    elim (in_either block blocks others there) [
      | inl front ↦ one block front
      | inr back ↦ two block back
    ]

either-below : (bound : ℕ) (test : Bool) (one other : ℕ) → one < bound → other < bound → (if test then one else other) < bound
either-below bound true one other first second = first
either-below bound false one other first second = second

-- Numbers

record AreAtMost (bound : ℕ) (numbers : BlockNumbers) : Type 0 where
  pub entry : numbers.entry ≤ bound
  pub moment : numbers.moment ≤ bound

abbrev AllAtMost : (bound : ℕ) → List BlockNumbers → Type 0
AllAtMost bound numbers = (k : ℕ) → AreAtMost bound (numbers_at numbers k)

row-at_most : (numbers : List BlockNumbers) (next : ℕ) (cell : Cell) → AllAtMost next numbers → AreAtMost (next + blocks_in cell) (numbers_row numbers next cell)
row-at_most numbers next cell most = record { entry = by (stops cell); moment = omega arith }
  where
    first : (parts : List ℕ) → entry_of_first numbers parts ≤ next
    first [] = omega arith
    first (part ∷ parts) = (most part).entry

    by : (test : Bool) → (if test then next else entry_of_first numbers cell.parts) ≤ next + blocks_in cell
    by true = omega arith
    by false = omega (arith, first cell.parts)

numbers-at_most : (numbers : List BlockNumbers) (next : ℕ) (cells : List Cell) → AllAtMost next numbers → AllAtMost (blocks_behind next cells) (numbers_from numbers next cells)
numbers-at_most numbers next [] most = most
numbers-at_most numbers next (cell ∷ cells) most =
    numbers-at_most (numbers ++ numbers_row numbers next cell ∷ []) (next + blocks_in cell) cells
    (each-joined (AreAtMost (next + blocks_in cell)) no_numbers numbers (numbers_row numbers next cell ∷ [])
    (λ k. record { entry = omega (arith, (most k).entry); moment = omega (arith, (most k).moment) })
    (each-single (AreAtMost (next + blocks_in cell)) no_numbers (numbers_row numbers next cell) (record { entry = omega arith; moment = omega arith })
    (row-at_most numbers next cell most)))

all-at_most : (cells : List Cell) → AllAtMost (closing_of cells) (numbers_of cells)
all-at_most cells = numbers-at_most [] 1 cells (λ k. record { entry = omega arith; moment = omega arith })

-- Exits

pub record ExitsBelow (bound : ℕ) (exits : Exits) : Type 0 where
  pub hit : exits.hit < bound
  pub miss : exits.miss < bound
  pub broken : exits.broken < bound
  pub continued : exits.continued < bound

module _ (cells : List Cell) (tree : IsOneTree cells) (exits : List Exits) (are : AreExits cells (numbers_of cells) (closing_of cells) exits) where
  -- how many blocks there are
  abbrev count : ℕ
  count = closing_of cells + 1

  entry-below : (number : ℕ) → (numbers_at (numbers_of cells) number).entry < count
  entry-below number = omega (arith, (all-at_most cells number).entry)

  moment-below : (number : ℕ) → (numbers_at (numbers_of cells) number).moment < count
  moment-below number = omega (arith, (all-at_most cells number).moment)

  behind-below : (moment : ℕ) → moment < count → (own : Exits) → ExitsBelow count own → (parts : List ℕ) (way : Way) → block_on (numbers_of cells) moment own parts way < count
  behind-below moment fits own below parts (Into place) = by (slice_get parts place)
    where
      by : (part : Option ℕ) → entry_or (numbers_of cells) part own.hit < count
      by None = below.hit
      by (Some part) = entry-below part
  behind-below moment fits own below parts Moment = fits
  behind-below moment fits own below parts (Out outcome) = either-below count outcome own.hit own.miss below.hit below.miss

  handed-below : (number : ℕ) (own : Exits) (cell : Cell) (place : ℕ) → ExitsBelow count own → ExitsBelow count (handed (numbers_of cells) number own cell place)
  handed-below number own cell place below =
      let moment = (numbers_at (numbers_of cells) number).moment in
      let left : (outcome : Bool) → block_behind (numbers_of cells) moment own cell place outcome < count = λ outcome.
      behind-below moment (moment-below number) own below cell.parts (behind cell.kind (length cell.parts) place outcome)
      in
      record {
        hit = left true;
        miss = left false;
        broken = either-below count (meaning.is_broken cell.kind place) own.hit own.broken below.hit below.broken;
        continued = either-below count (meaning.is_loop_body cell.kind place) (block_behind (numbers_of cells) moment own cell place true) own.continued (left true) below.continued;
      }

  to-below : (block : ℕ) → block < count → ExitsBelow count (exits_to block)
  to-below block below = record { hit = below; miss = below; broken = below; continued = below }

  -- from the last cell to the first
  exits-below : (gap number : ℕ) → length cells ≤ number + gap → ExitsBelow count (exits_at exits number)
  exits-below zero number reach = subst (ExitsBelow count) (sym (get_or_past exits number (exits_to 0) (omega (arith, reach, are.count)))) (to-below 0 (omega arith))
  exits-below (suc gap) number reach =
      elim (cases_lt (number + 1) (length cells)) [
        | inl within ↦
            let (parent, place, has) = tree.whole number within in
            subst (ExitsBelow count) (sym (get_or_from_slice_get exits number _ (exits_to 0) (are.parts parent place number has)))
            (handed-below parent (exits_at exits parent) (cell_at cells parent) place
            (exits-below gap parent (omega (arith, reach, tree.each.before parent place number has))))
        | inr past ↦
            elim (cases_lt number (length cells)) [
              | inl last ↦
                  subst (ExitsBelow count) (sym (root-exits cells exits are tree.some) ∙ ap (exits_at exits) (omega (arith, past, last))) (to-below (closing_of cells) (omega arith))
              | inr beyond ↦ exits-below gap number (omega (arith, beyond))
            ]
      ]

  pub all-exits-below : (number : ℕ) → ExitsBelow count (exits_at exits number)
  all-exits-below number = exits-below (length cells) number (omega arith)

-- Goings

record LeadBelow (bound : ℕ) (tables : Tables) : Type 0 where
  pub entry : (number : ℕ) → tables.entry number < bound
  pub moment : (number : ℕ) → tables.moment number < bound
  pub hit : (number : ℕ) → tables.hit number < bound
  pub miss : (number : ℕ) → tables.miss number < bound
  pub broken : (number : ℕ) → tables.broken number < bound
  pub continued : (number : ℕ) → tables.continued number < bound
  pub cases : (number : ℕ) (label : LabelledBlock) → IsIn label (tables.cases number) → label.1 < bound
  pub seen : (number : ℕ) (label : LabelledBlock) → IsIn label (tables.seen number) → label.1 < bound

places-below : (bound : ℕ) (is_such : meaning.ControlKind → Bool) (labels : List LabelledBlock) → ((label : LabelledBlock) → IsIn label labels → label.1 < bound)
    → AllBelow bound (places_of is_such labels)
places-below bound is_such labels below block there = let (kind, among, is) = places_from is_such labels block there in below (kind, block) among

or_else-below : (bound : ℕ) (blocks : List ℕ) (past : ℕ) → AllBelow bound blocks → past < bound → AllBelow bound (or_else blocks past)
or_else-below bound [] past below fits = one-below bound past fits
or_else-below bound (block ∷ blocks) past below fits = below

or_all-below : (bound : ℕ) (blocks others : List ℕ) → AllBelow bound blocks → AllBelow bound others → AllBelow bound (or_all blocks others)
or_all-below bound [] others below also = also
or_all-below bound (block ∷ blocks) others below also = below

picked-below : (bound : ℕ) (number : Option ℤ) (labels : List LabelledBlock) (past : ℕ) → ((label : LabelledBlock) → IsIn label labels → label.1 < bound) → past < bound
    → AllBelow bound (picked number labels past)
picked-below bound None labels past below fits =
    joined-below bound (places_of has_number labels) (or_else (places_of is_default labels) past) (places-below bound has_number labels below)
    (or_else-below bound (places_of is_default labels) past (places-below bound is_default labels below) fits)
picked-below bound (Some number) labels past below fits =
    or_all-below bound (places_of (is_numbered number) labels) (or_else (places_of is_default labels) past) (places-below bound (is_numbered number) labels below)
    (or_else-below bound (places_of is_default labels) past (places-below bound is_default labels below) fits)

module _ (bound : ℕ) (tables : Tables) (lead : LeadBelow bound tables) where
  led-below : (number : ℕ) (parts : List ℕ) (way : Way) → led_block tables number parts way < bound
  led-below number parts (Into place) = by (slice_get parts place)
    where
      by : (part : Option ℕ) → entry_in tables part (tables.hit number) < bound
      by None = lead.hit number
      by (Some part) = lead.entry part
  led-below number parts Moment = lead.moment number
  led-below number parts (Out outcome) = either-below bound outcome (tables.hit number) (tables.miss number) (lead.hit number) (lead.miss number)

  gone-below : (number : ℕ) (cell : Cell) (going : Going) → AllBelow bound (gone_block tables number cell going)
  gone-below number cell (On way) = one-below bound (led_block tables number cell.parts way) (led-below number cell.parts way)
  gone-below number cell Breaks = one-below bound (tables.broken number) (lead.broken number)
  gone-below number cell Continues = one-below bound (tables.continued number) (lead.continued number)
  gone-below number cell (Jumps name) = places-below bound (is_named name) (tables.seen number) (lead.seen number)
  gone-below number cell Picks = picked-below bound (number_of cell.kind) (tables.cases number) (tables.hit number) (lead.cases number) (lead.hit number)

  all_gone-below : (number : ℕ) (cell : Cell) (goings : List Going) → AllBelow bound (all_gone_blocks tables number cell goings)
  all_gone-below number cell [] = λ block there. absurd there
  all_gone-below number cell (going ∷ goings) =
      joined-below bound (gone_block tables number cell going) (all_gone_blocks tables number cell goings) (gone-below number cell going) (all_gone-below number cell goings)

-- Points

entry-point : (kind : meaning.ControlKind) (token : ℕ) → BeginsWithPoint (entry_steps kind token)
entry-point (meaning.Context by) token = tt
entry-point kind token = tt

moment-point : (names : NameId → List ℕ) (token : ℕ) (kind : ControlKind) → BeginsWithPoint (moment_steps (kind_seen names token kind) token)
moment-point names token (kinds.Calling None outcomes) = tt
moment-point names token (kinds.Calling (Some note) outcomes) = tt
moment-point names token (kinds.For true) = tt
moment-point names token (kinds.For false) = tt
moment-point names token kind = tt

-- Blocks

record IsSound (bound : ℕ) (block : BasicBlock) : Type 0 where
  pub point : BeginsWithPoint block.steps
  pub below : AllBelow bound block.successors

abbrev AllSound : (bound : ℕ) → List BasicBlock → Type 0
AllSound bound graph = (number : ℕ) → IsSound bound (get_or graph number empty_block)

sound-empty : (bound : ℕ) → IsSound bound empty_block
sound-empty bound = record { point = tt; below = λ block there. absurd there }

sound-joined : (bound : ℕ) (blocks others : List BasicBlock) → AllSound bound blocks → AllSound bound others → AllSound bound (blocks ++ others)
sound-joined bound blocks others one two = each-joined (IsSound bound) empty_block blocks others one two

sound-single : (bound : ℕ) (block : BasicBlock) → IsSound bound block → AllSound bound (block ∷ [])
sound-single bound block own = each-single (IsSound bound) empty_block block (sound-empty bound) own

sound-if : (bound : ℕ) (test : Bool) (block : BasicBlock) → IsSound bound block → AllSound bound (if_there test block)
sound-if bound true block own = sound-single bound block own
sound-if bound false block own = λ number. sound-empty bound

module _ (names : NameId → List ℕ) (bound : ℕ) (tables : Tables) (lead : LeadBelow bound tables) where
  sound-cell : (number : ℕ) (cell : KeptCell) → AllSound bound (blocks_in_cell tables number (cell_seen names cell))
  sound-cell number cell =
      let seen : Cell = cell_seen names cell in
      sound-joined bound (if_there (stops seen) (entry_block tables number seen)) (if_there (may_have_moment seen.kind (length seen.parts)) (moment_block tables number seen))
      (sound-if bound (stops seen) (entry_block tables number seen)
      (record { point = entry-point seen.kind cell.token; below = all_gone-below bound tables lead number seen (begins seen.kind (length seen.parts)) }))
      (sound-if bound (may_have_moment seen.kind (length seen.parts)) (moment_block tables number seen)
      (record { point = moment-point names cell.token cell.kind; below = all_gone-below bound tables lead number seen (onward seen.kind) }))

  sound-after : (front : List BasicBlock) (number : ℕ) (kept : List KeptCell) → AllSound bound front → AllSound bound (blocks_after tables front number (cells_seen names kept))
  sound-after front number [] sound = sound
  sound-after front number (cell ∷ kept) sound =
      sound-after (front ++ blocks_in_cell tables number (cell_seen names cell)) (number + 1) kept
      (sound-joined bound front (blocks_in_cell tables number (cell_seen names cell)) sound (sound-cell number cell))

  sound-graph : (brace : ℕ) (kept : List KeptCell) → AllSound bound (graph_by tables brace (cells_seen names kept))
  sound-graph brace kept =
      let first : BasicBlock = first_block tables (length (cells_seen names kept) - 1) in
      sound-joined bound (blocks_after tables (first ∷ []) 0 (cells_seen names kept)) (closing_block brace ∷ [])
      (sound-after (first ∷ []) 0 kept
      (sound-single bound first
      (record { point = tt; below = one-below bound (tables.entry (length (cells_seen names kept) - 1)) (lead.entry (length (cells_seen names kept) - 1)) })))
      (sound-single bound (closing_block brace) (record { point = tt; below = λ block there. absurd there }))

-- As the code has them

labelled-below : (bound : ℕ) (cells : List Cell) (numbers : List BlockNumbers) → ((number : ℕ) → (numbers_at numbers number).entry < bound) → (labels : List ℕ) (label : LabelledBlock)
    → IsIn label (labelled cells numbers labels) → label.1 < bound
labelled-below bound cells numbers below labels label there =
    let (own, among, is) = mapped_from (labelled_block cells numbers) labels label there in omega (arith, below own, ap (λ (it : LabelledBlock). it.1) is)

-- names that are their numbers
abbrev number_alone : NameId → List ℕ
number_alone name = name.0 ∷ []

and-true : (test : Bool) → (test && true) ≡ test
and-true true = refl
and-true false = refl

numbers-apart : KeepsApart number_alone
numbers-apart name other = and-true (nat_eq name.0 other.0)

pub walkable : (kept : List KeptCell) → IsOneTree (cells_seen number_alone kept) → (tables : CellTables) (closing brace : ℕ) (flow : Flow)
    → ((names : NameId → List ℕ) → tables.numbers.items ≡ numbers_of (cells_seen names kept)) → ((names : NameId → List ℕ) → closing ≡ closing_of (cells_seen names kept))
    → ((names : NameId → List ℕ) → AreExits (cells_seen names kept) tables.numbers.items closing tables.exits.items)
    → ((names : NameId → List ℕ) → KeepsApart names → graph_of flow ≡ graph_by (tables_seen (cells_seen names kept) tables) brace (cells_seen names kept)) → IsWalkable flow
walkable kept tree tables closing brace flow numbers closes_at are is =
    record {
      begins = omega (arith, long, length-map flow.blocks block_of);
      closed = λ number other there.
          omega (arith, long, (sound number).below other (subst (λ (all : List BasicBlock). IsIn other (get_or all number empty_block).successors) same there));
      points = λ number. subst (λ (all : List BasicBlock). BeginsWithPoint (get_or all number empty_block).steps) (sym same) (sound number).point;
    }
  where
    cells : List Cell
    cells = cells_seen number_alone kept

    same : graph_of flow ≡ graph_by (tables_seen (cells_seen number_alone kept) tables) brace (cells_seen number_alone kept)
    same = is number_alone numbers-apart

    long : length (graph_of flow) ≡ closing_of (cells_seen number_alone kept) + 1
    long = ap length same ∙ length-graph (tables_seen (cells_seen number_alone kept) tables) brace (cells_seen number_alone kept)

    handed_so : AreExits (cells_seen number_alone kept) (numbers_of (cells_seen number_alone kept)) (closing_of (cells_seen number_alone kept)) tables.exits.items
    handed_so =
        subst (λ it. AreExits (cells_seen number_alone kept) (numbers_of (cells_seen number_alone kept)) it tables.exits.items) (closes_at number_alone)
        (subst (λ it. AreExits (cells_seen number_alone kept) it closing tables.exits.items) (numbers number_alone) (are number_alone))

    entries : (number : ℕ) → (numbers_at tables.numbers.items number).entry < closing_of (cells_seen number_alone kept) + 1
    entries number =
        omega (arith, ap (λ it. (numbers_at it number).entry) (numbers number_alone), (all-at_most (cells_seen number_alone kept) number).entry)

    left : (number : ℕ) → ExitsBelow (closing_of (cells_seen number_alone kept) + 1) (exits_at tables.exits.items number)
    left number = all-exits-below (cells_seen number_alone kept) tree tables.exits.items handed_so number

    lead : LeadBelow (closing_of (cells_seen number_alone kept) + 1) (tables_seen (cells_seen number_alone kept) tables)
    lead =
        record {
          entry = entries;
          moment = λ number.
              omega (arith, ap (λ it. (numbers_at it number).moment) (numbers number_alone), (all-at_most (cells_seen number_alone kept) number).moment);
          hit = λ number. (left number).hit;
          miss = λ number. (left number).miss;
          broken = λ number. (left number).broken;
          continued = λ number. (left number).continued;
          cases = λ number label there.
              labelled-below (closing_of (cells_seen number_alone kept) + 1) (cells_seen number_alone kept) tables.numbers.items entries (row_at (rows tables.labels.items) number) label there;
          seen = λ number label there.
              labelled-below (closing_of (cells_seen number_alone kept) + 1) (cells_seen number_alone kept) tables.numbers.items entries (row_at (rows tables.jumps.items) number) label there;
        }

    sound : AllSound (closing_of (cells_seen number_alone kept) + 1) (graph_by (tables_seen (cells_seen number_alone kept) tables) brace (cells_seen number_alone kept))
    sound = sound-graph number_alone (closing_of (cells_seen number_alone kept) + 1) (tables_seen (cells_seen number_alone kept) tables) lead brace kept
