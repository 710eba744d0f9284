-- The blocks of a body, in the order of their numbers.
use Rattle.std.specs.Prelude.{◌≡◌, ℕ, ◌+◌, ◌-◌, Bool, true, false, List, [], ◌∷◌, ◌++◌, map, length, Some, None, if◌then◌else◌}
use Rattle.sparse_model.specs.declared.ids.NameId.{NameId}
use Rattle.meaning_paths.specs.Steps.{Point, End}
use Rattle.meaning_paths.specs.Graphs.{BasicBlock}
use Rattle.meaning_control.specs.Kinds.{ControlKind}
use Rattle.meaning_control.specs.Choices.{is_default, is_named, is_numbered, has_number, places_of}
use Rattle.meaning_control.specs.Rows.{begins, entry_steps, moment_steps, onward}
use Rattle.meaning_control.specs.laws.Cells.{Cell, LabelledBlock, Tables, all_gone_blocks, stops}
use Rattle.control_cells.specs.Exits.{exits_at}
use Rattle.control_cells.specs.Labels.{row_at, rows}
use Rattle.control_cells.specs.Numbers.{numbers_at}
use Rattle.control_cells.specs.Seen.{cell_at, may_have_moment}
use Rattle.control_cells.specs.declared.numbers.BlockNumbers.{BlockNumbers}
use Rattle.control_cells.specs.declared.exits.Exits.{Exits}
use Rattle.control_cells.specs.declared.kind.Outcomes.{Outcomes}
use Rattle.control_cells.specs.declared.kind.Outcomes.TheVariants as outcomes
use Rattle.control_cells.specs.declared.tables.CellTables.{CellTables}
use Rattle.control_cells.specs.declared.next.Wanted.{Wanted}
use Rattle.control_cells.specs.declared.next.Wanted.TheVariants as wanted_ones

-- Labels

abbrev pub is_wanted : (NameId → List ℕ) → Wanted → ControlKind → Bool
is_wanted names (wanted_ones.Named name) kind = is_named (names name) kind
is_wanted names (wanted_ones.Chosen (Some number)) kind = is_numbered number kind
is_wanted names (wanted_ones.Chosen None) kind = has_number kind
is_wanted names wanted_ones.Default kind = is_default kind

-- a label by its cell: what it is, and the block before it
abbrev pub labelled_block : List Cell → List BlockNumbers → (label : ℕ) → LabelledBlock
labelled_block cells numbers label = ((cell_at cells label).kind, (numbers_at numbers label).entry)

abbrev pub labelled : List Cell → List BlockNumbers → List ℕ → List LabelledBlock
labelled cells numbers labels = map (labelled_block cells numbers) labels

-- the blocks before the labels of such kinds, behind others
abbrev pub places_after : (ControlKind → Bool) → (front : List ℕ) → List LabelledBlock → List ℕ
places_after is_such front [] = front
places_after is_such front (label ∷ labels) = places_after is_such (front ++ places_of is_such (label ∷ [])) labels

-- Of a body and of a switch, what stands for `cases` are its labels in the order of their cells; of a `goto`, what stands for `seen` are
-- the labels of its name.
abbrev pub tables_seen : List Cell → CellTables → Tables
tables_seen cells tables =
    record {
      entry = λ number. (numbers_at tables.numbers.items number).entry;
      moment = λ number. (numbers_at tables.numbers.items number).moment;
      hit = λ number. (exits_at tables.exits.items number).hit;
      miss = λ number. (exits_at tables.exits.items number).miss;
      broken = λ number. (exits_at tables.exits.items number).broken;
      continued = λ number. (exits_at tables.exits.items number).continued;
      labels = λ number. [];
      cases = λ number. labelled cells tables.numbers.items (row_at (rows tables.labels.items) number);
      seen = λ number. labelled cells tables.numbers.items (row_at (rows tables.jumps.items) number);
    }

-- of so many cells
pub record AreOfCells (count : ℕ) (tables : CellTables) : Type 0 where
  pub numbers : length tables.numbers.items ≡ count
  pub exits : length tables.exits.items ≡ count
  pub labels : length tables.labels.items ≡ count
  pub jumps : length tables.jumps.items ≡ count

-- Blocks

-- where a cell is left in each of these ways
abbrev pub blocks_out : Exits → Outcomes → List ℕ
blocks_out exits outcomes.Never = []
blocks_out exits (outcomes.One outcome) = (if outcome then exits.hit else exits.miss) ∷ []
blocks_out exits outcomes.Both = exits.hit ∷ exits.miss ∷ []

abbrev pub entry_block : Tables → (number : ℕ) → Cell → BasicBlock
entry_block tables number cell =
    record { steps = entry_steps cell.kind cell.token; successors = all_gone_blocks tables number cell (begins cell.kind (length cell.parts)) }

abbrev pub moment_block : Tables → (number : ℕ) → Cell → BasicBlock
moment_block tables number cell =
    record { steps = moment_steps cell.kind cell.token; successors = all_gone_blocks tables number cell (onward cell.kind) }

abbrev pub if_there : Bool → BasicBlock → List BasicBlock
if_there true block = block ∷ []
if_there false block = []

abbrev pub blocks_in_cell : Tables → (number : ℕ) → Cell → List BasicBlock
blocks_in_cell tables number cell =
    if_there (stops cell) (entry_block tables number cell)
    ++ if_there (may_have_moment cell.kind (length cell.parts)) (moment_block tables number cell)

-- behind others, those of cells of which the first has this number
abbrev pub blocks_after : Tables → (front : List BasicBlock) → (number : ℕ) → List Cell → List BasicBlock
blocks_after tables front number [] = front
blocks_after tables front number (cell ∷ cells) = blocks_after tables (front ++ blocks_in_cell tables number cell) (number + 1) cells

-- block 0 leads into the root
abbrev pub first_block : Tables → (root : ℕ) → BasicBlock
first_block tables root = record { steps = []; successors = tables.entry root ∷ [] }

abbrev pub closing_block : (brace : ℕ) → BasicBlock
closing_block brace = record { steps = Point brace false ∷ End brace ∷ []; successors = [] }

abbrev pub graph_by : Tables → (brace : ℕ) → List Cell → List BasicBlock
graph_by tables brace cells =
    blocks_after tables (first_block tables (length cells - 1) ∷ []) 0 cells ++ closing_block brace ∷ []
