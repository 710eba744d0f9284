-- What is left of a body whose cells are made one after the other, and what it will be.
use Rattle.std.specs.Prelude.{ℕ, ◌+◌, ◌-◌, ◌*◌, Bool, false, ◌&&◌, nat_eq, if◌then◌else◌, List, [], ◌∷◌, ◌++◌, length, drop, map, reverse, take}
use Rattle.vocabulary.specs.declared.node_kind.NodeKind.{NodeKind}
use Rattle.vocabulary.specs.declared.node_kind.NodeKind.TheVariants as kinds
use Rattle.node_facts.specs.Facts.{name_seen}
use Rattle.meaning_control.specs.Kinds.{ControlKind}
use Rattle.meaning_control.specs.Nodes.{JudgedUnit}
use Rattle.meaning_control.specs.States.{ControlNode, ControlNodes, NoNodes, Nodes}
use Rattle.meaning_control.specs.laws.Cells.{Cell}
use Rattle.control_cells.specs.Seen.{kind_seen}
use Rattle.linear_code.specs.Cells.{cells_from, node_where, number_of, size_of}
use Rattle.linear_code.specs.declared.cells.Task.{Task as KeptTask}
use Rattle.linear_code.specs.declared.cells.Task.TheVariants as kept

pub data Task : Type 0 where
  -- the cells of a node
  Visit : (node : ControlNode) → Task
  -- a cell whose parts, so many, are the last that were made and are no parts yet
  Finish : (kind : ControlKind) → (token parts : ℕ) → Task

-- what a `__builtin_expect` with so many parts expects is passed behind either outcome of its value
abbrev pub stands_twice : NodeKind → (is_tested : Bool) → (parts : ℕ) → Bool
stands_twice kinds.BuiltinExpect is_tested parts = is_tested && nat_eq parts 2
stands_twice kind is_tested parts = false

-- how many parts a node has by how many it has in the text
abbrev pub parts_in : NodeKind → (is_tested : Bool) → (parts : ℕ) → ℕ
parts_in kind is_tested parts = if stands_twice kind is_tested parts then 3 else parts

-- to visit each of these
abbrev pub visits : ControlNodes → List Task
visits NoNodes = []
visits (Nodes node others) = Visit node ∷ visits others

abbrev pub task_seen : JudgedUnit → KeptTask → Task
task_seen unit (kept.Visit handle is_tested) = Visit (node_where unit handle is_tested)
task_seen unit (kept.Finish kind token parts) = Finish (kind_seen name_seen token kind) token parts

-- those that are kept, the next one last
abbrev pub tasks_seen : JudgedUnit → List KeptTask → List Task
tasks_seen unit tasks = reverse (map (task_seen unit) tasks)

-- the cells behind these tasks, by the cells before them and the numbers of those that are no parts yet
abbrev pub cells_behind : List Task → (cells : List Cell) → (roots : List ℕ) → List Cell
cells_behind [] cells roots = cells
cells_behind (Visit node ∷ tasks) cells roots =
    cells_behind tasks (cells ++ cells_from (length cells) node) (roots ++ number_of (length cells) node ∷ [])
cells_behind (Finish kind token parts ∷ tasks) cells roots =
    cells_behind tasks (cells ++ record { kind = kind; token = token; parts = drop (length roots - parts) roots } ∷ [])
    (take (length roots - parts) roots ++ length cells ∷ [])

-- how many turns they take
abbrev pub turns_of : Task → ℕ
turns_of (Visit node) = 2 * size_of node
turns_of (Finish kind token parts) = 1

abbrev pub turns_left : List Task → ℕ
turns_left [] = 0
turns_left (task ∷ tasks) = turns_of task + turns_left tasks
