-- A body as a list of cells, and what tables and a flow over these owe it.
use Rattle.std.specs.Prelude.{◌≡◌, ◌↔◌, ◌⊎◌, ℕ, Bool, true, false, List, [], ◌∷◌, ◌++◌, length, slice_get, Option, Some, None, if◌then◌else◌}
use Rattle.meaning_paths.specs.Steps.{Step, Point, End}
use Rattle.meaning_paths.specs.Walks.{IsIn}
use Rattle.meaning_paths.specs.Graphs.{BasicBlock, steps_at, successors_at}
use Rattle.meaning_control.specs.Kinds.{ControlKind, is_statement, is_body, is_label, is_case, is_loop_body, is_broken}
use Rattle.meaning_control.specs.Choices.{number_of, named, picked}
use Rattle.meaning_control.specs.Rows.{Way, Into, Moment, Out, Going, On, Breaks, Continues, Jumps, Picks, entry_steps, moment_steps, begins, onward, behind}
use Rattle.meaning_control.specs.States.{ControlNode, Node, ControlNodes, NoNodes, Nodes, ends_cases}

-- Cells

-- a control node whose parts are cells by their numbers
pub record Cell : Type 0 where
  pub kind : ControlKind
  pub token : ℕ
  pub parts : List ℕ

abbrev mutual
  -- the cell with this number, and those of its parts, make this node
  pub IsNodeOf : List Cell → (number : ℕ) → ControlNode → Type 0
  IsNodeOf cells number (Node kind token parts) =
      (numbers : List ℕ) × (slice_get cells number ≡ Some (record { kind = kind; token = token; parts = numbers })) × AreNodesOf cells numbers parts

  pub AreNodesOf : List Cell → (numbers : List ℕ) → ControlNodes → Type 0
  AreNodesOf cells [] NoNodes = Unit {0}
  AreNodesOf cells (number ∷ numbers) (Nodes first others) = IsNodeOf cells number first × AreNodesOf cells numbers others
  AreNodesOf cells [] (Nodes first others) = ⊥
  AreNodesOf cells (number ∷ numbers) NoNodes = ⊥

-- something is passed or chosen before the cell: it is a statement, or has no parts
abbrev pub is_without : List ℕ → Bool
is_without [] = true
is_without (part ∷ parts) = false

abbrev pub stops : Cell → Bool
stops cell = if is_statement cell.kind then true else is_without cell.parts

-- some way leads to its moment
abbrev pub HasMoment : Cell → Type 0
HasMoment cell =
    IsIn (On Moment) (begins cell.kind (length cell.parts)) ⊎ IsIn (On Moment) (onward cell.kind)
    ⊎ ((place part : ℕ) × (outcome : Bool) × (slice_get cell.parts place ≡ Some part) × (behind cell.kind (length cell.parts) place outcome ≡ Moment))

-- Tables

-- a label and the block before it
abbrev pub LabelledBlock : Type 0
LabelledBlock = ControlKind × ℕ

-- By the numbers of cells: blocks before a cell and at its moment; those to which control goes when it is left as true, as false, by
-- `break` and by `continue`; the labels of a body in it, the cases of a switch in it, and the labels that are seen from it.
pub record Tables : Type 0 where
  pub entry : ℕ → ℕ
  pub moment : ℕ → ℕ
  pub hit : ℕ → ℕ
  pub miss : ℕ → ℕ
  pub broken : ℕ → ℕ
  pub continued : ℕ → ℕ
  pub labels : ℕ → List LabelledBlock
  pub cases : ℕ → List LabelledBlock
  pub seen : ℕ → List LabelledBlock

abbrev pub entry_or : Tables → Option ℕ → (otherwise : ℕ) → ℕ
entry_or tables None otherwise = otherwise
entry_or tables (Some part) otherwise = tables.entry part

-- the block to which a way leads in a cell
abbrev pub led_block : Tables → (number : ℕ) → (parts : List ℕ) → Way → ℕ
led_block tables number parts (Into place) = entry_or tables (slice_get parts place) (tables.hit number)
led_block tables number parts Moment = tables.moment number
led_block tables number parts (Out outcome) = if outcome then tables.hit number else tables.miss number

-- labels of some kinds among cells and below them, none below a cell of some kinds, by those that are found in each cell
abbrev pub found_in : (is_sought ends : ControlKind → Bool) → (entry : ℕ → ℕ) → (found : ℕ → List LabelledBlock) → (number : ℕ) → Option Cell
    → List LabelledBlock
found_in is_sought ends entry found number None = []
found_in is_sought ends entry found number (Some cell) =
    (if is_sought cell.kind then (cell.kind, entry number) ∷ [] else []) ++ (if ends cell.kind then [] else found number)

abbrev pub found_among : List Cell → (is_sought ends : ControlKind → Bool) → (entry : ℕ → ℕ) → (found : ℕ → List LabelledBlock) → List ℕ
    → List LabelledBlock
found_among cells is_sought ends entry found [] = []
found_among cells is_sought ends entry found (number ∷ numbers) =
    found_in is_sought ends entry found number (slice_get cells number) ++ found_among cells is_sought ends entry found numbers

-- Each entry is what the cell around asks for.
pub record AreTables (cells : List Cell) (root closing : ℕ) (tables : Tables) : Type 0 where
  -- control goes into a cell by its first part
  pub first_part : (number first : ℕ) (parts : List ℕ) (cell : Cell) → slice_get cells number ≡ Some cell → cell.parts ≡ first ∷ parts
      → is_statement cell.kind ≡ false → tables.entry number ≡ tables.entry first
  pub root_hit : tables.hit root ≡ closing
  pub root_miss : tables.miss root ≡ closing
  pub root_broken : tables.broken root ≡ closing
  pub root_continued : tables.continued root ≡ closing
  pub root_seen : tables.seen root ≡ []
  -- a part is left as the row of its cell says
  pub hit_part : (number place part : ℕ) (cell : Cell) → slice_get cells number ≡ Some cell → slice_get cell.parts place ≡ Some part
      → tables.hit part ≡ led_block tables number cell.parts (behind cell.kind (length cell.parts) place true)
  pub miss_part : (number place part : ℕ) (cell : Cell) → slice_get cells number ≡ Some cell → slice_get cell.parts place ≡ Some part
      → tables.miss part ≡ led_block tables number cell.parts (behind cell.kind (length cell.parts) place false)
  pub broken_part : (number place part : ℕ) (cell : Cell) → slice_get cells number ≡ Some cell → slice_get cell.parts place ≡ Some part
      → tables.broken part ≡ (if is_broken cell.kind place then tables.hit number else tables.broken number)
  pub continued_part : (number place part : ℕ) (cell : Cell) → slice_get cells number ≡ Some cell → slice_get cell.parts place ≡ Some part
      → tables.continued part ≡ (if is_loop_body cell.kind place then tables.hit part else tables.continued number)
  pub seen_part : (number place part : ℕ) (cell : Cell) → slice_get cells number ≡ Some cell → slice_get cell.parts place ≡ Some part
      → tables.seen part ≡ ((if is_body cell.kind then tables.labels number else []) ++ tables.seen number)
  pub labels_of : (number : ℕ) (cell : Cell) → slice_get cells number ≡ Some cell
      → tables.labels number ≡ found_among cells is_label is_body tables.entry tables.labels cell.parts
  pub cases_of : (number : ℕ) (cell : Cell) → slice_get cells number ≡ Some cell
      → tables.cases number ≡ found_among cells is_case ends_cases tables.entry tables.cases cell.parts

-- Flows

abbrev pub gone_block : Tables → (number : ℕ) → Cell → Going → List ℕ
gone_block tables number cell (On way) = led_block tables number cell.parts way ∷ []
gone_block tables number cell Breaks = tables.broken number ∷ []
gone_block tables number cell Continues = tables.continued number ∷ []
gone_block tables number cell (Jumps name) = named name (tables.seen number)
gone_block tables number cell Picks = picked (number_of cell.kind) (tables.cases number) (tables.hit number)

abbrev pub all_gone_blocks : Tables → (number : ℕ) → Cell → List Going → List ℕ
all_gone_blocks tables number cell [] = []
all_gone_blocks tables number cell (going ∷ goings) = gone_block tables number cell going ++ all_gone_blocks tables number cell goings

-- the block has these steps, and exactly these successors, however often
abbrev pub IsBlock : List BasicBlock → (number : ℕ) → List Step → (successors : List ℕ) → Type 0
IsBlock graph number steps successors =
    (steps_at graph number ≡ steps) × ((other : ℕ) → IsIn other (successors_at graph number) ↔ IsIn other successors)

-- Each block has the steps and the successors of its row.
pub record IsFlowOf (cells : List Cell) (root brace closing : ℕ) (tables : Tables) (graph : List BasicBlock) : Type 0 where
  pub begins_so : IsBlock graph 0 [] (tables.entry root ∷ [])
  pub closes : IsBlock graph closing (Point brace false ∷ End brace ∷ []) []
  pub entries : (number : ℕ) (cell : Cell) → slice_get cells number ≡ Some cell → stops cell ≡ true
      → IsBlock graph (tables.entry number) (entry_steps cell.kind cell.token) (all_gone_blocks tables number cell (begins cell.kind (length cell.parts)))
  pub moments : (number : ℕ) (cell : Cell) → slice_get cells number ≡ Some cell → HasMoment cell
      → IsBlock graph (tables.moment number) (moment_steps cell.kind cell.token) (all_gone_blocks tables number cell (onward cell.kind))
