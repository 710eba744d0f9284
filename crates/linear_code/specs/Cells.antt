-- A body as a list of cells: each node stands behind its parts, in the order of the text.
use Rattle.std.specs.Prelude.{◌≡◌, ℕ, suc, ◌+◌, ◌-◌, ◌<◌, ◌^◌, Bool, List, [], ◌∷◌, ◌++◌, length}
use Rattle.vocabulary.specs.declared.node_kind.NodeKind.TheVariants as kinds
use Rattle.meaning_typing.specs.Units.{UnitNodes, node_at, kind_at}
use Rattle.meaning_control.specs.Nodes.{JudgedUnit, NodeControl, control_at, control_where, controls_of}
use Rattle.meaning_control.specs.States.{ControlNode, Node, ControlNodes, NoNodes, Nodes, parts_of}
use Rattle.meaning_control.specs.laws.Cells.{Cell, IsNodeOf}
use Rattle.control_cells.specs.Trees.{IsOneTree}

-- what all nodes of a unit are to control
abbrev pub controls_in : JudgedUnit → List NodeControl
controls_in unit = controls_of unit (length unit.nodes)

-- a node of a unit as control sees it, as it is tested or not
abbrev pub node_where : JudgedUnit → (handle : ℕ) → (is_tested : Bool) → ControlNode
node_where unit handle is_tested = control_where (control_at (controls_in unit) handle) is_tested

-- the `while` of a `do` stands at a token
abbrev pub KnowsTokens : UnitNodes → Type 0
KnowsTokens nodes = (handle : ℕ) → kind_at nodes handle ≡ kinds.DoStatement → (node_at nodes handle).number < 2 ^ 32

abbrev mutual
  -- how many cells a node is
  pub size_of : ControlNode → ℕ
  size_of (Node kind token parts) = suc (sizes_of parts)

  pub sizes_of : ControlNodes → ℕ
  sizes_of NoNodes = 0
  sizes_of (Nodes node others) = size_of node + sizes_of others

-- the number of its own cell, where the first of its cells has this number
abbrev pub number_of : (first : ℕ) → ControlNode → ℕ
number_of first node = first + sizes_of (parts_of node)

abbrev pub numbers_of : (first : ℕ) → ControlNodes → List ℕ
numbers_of first NoNodes = []
numbers_of first (Nodes node others) = number_of first node ∷ numbers_of (first + size_of node) others

abbrev mutual
  -- the cells of a node, of which the first has this number: those of its parts, and its own behind them
  pub cells_from : (first : ℕ) → ControlNode → List Cell
  cells_from first (Node kind token parts) =
      all_from first parts ++ record { kind = kind; token = token; parts = numbers_of first parts } ∷ []

  pub all_from : (first : ℕ) → ControlNodes → List Cell
  all_from first NoNodes = []
  all_from first (Nodes node others) = cells_from first node ++ all_from (first + size_of node) others

abbrev pub cells_of : ControlNode → List Cell
cells_of body = cells_from 0 body

-- they make their body, whose own cell is the last one, as one tree
abbrev pub CellsMakeTheirBody : Type 0
CellsMakeTheirBody = (body : ControlNode) → IsNodeOf (cells_of body) (length (cells_of body) - 1) body × IsOneTree (cells_of body)
