-- What holds of a flow that keeps the equations of a body.
use Rattle.std.specs.Prelude.{◌↔◌, ℕ, List}
use Rattle.meaning_paths.specs.Steps.{Step}
use Rattle.meaning_paths.specs.Graphs.{BasicBlock, IsPathOf}
use Rattle.meaning_control.specs.States.{ControlNode, IsControlPath}
use Rattle.meaning_control.specs.laws.Cells.{Cell, IsNodeOf, Tables, AreTables, IsFlowOf}

-- its paths are those of the body, neither more nor fewer
abbrev pub FlowsHaveThePaths : Type 0
FlowsHaveThePaths =
    (cells : List Cell) (root brace closing : ℕ) (tables : Tables) (graph : List BasicBlock) (body : ControlNode)
    → IsNodeOf cells root body → AreTables cells root closing tables → IsFlowOf cells root brace closing tables graph
    → (path : List Step) → IsControlPath brace body path ↔ IsPathOf graph path
