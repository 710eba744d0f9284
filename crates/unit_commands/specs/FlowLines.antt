-- What is written of the functions of a unit: of each definition a line, its control flow graph.
use Rattle.std.specs.Prelude.{◌≡◌, ◌↔◌, ℕ, zero, suc, List, [], ◌++◌, codes, length}
use Rattle.vocabulary.specs.declared.node_kind.NodeKind.{NodeKind}
use Rattle.vocabulary.specs.declared.node_kind.NodeKind.TheVariants as kinds
use Rattle.meaning_paths.specs.Graphs.{BasicBlock, IsPathOf}
use Rattle.meaning_paths.specs.Steps.{Step}
use Rattle.meaning_typing.specs.Units.{kind_at}
use Rattle.meaning_control.specs.Functions.{IsPathOfFunction}
use Rattle.meaning_control.specs.Nodes.{JudgedUnit}
use Rattle.meaning_contexts.specs.Failures.{sums_of}
use Rattle.linear_code.specs.Known.{note_of}
use Rattle.control_flow.specs.Shown.{shown_line}
use Rattle.unit_commands.specs.Appending.{AppendsOne}

-- A function

-- exactly the paths of the function are paths of these blocks
abbrev pub HasItsPaths : JudgedUnit → (function : ℕ) → List BasicBlock → Type 0
HasItsPaths unit function graph = (path : List Step) → IsPathOfFunction unit function path ↔ IsPathOf graph path

-- the line shows such blocks, with the counts with which the function is entered and left
abbrev pub IsFunctionLine : JudgedUnit → (function : ℕ) → List ℕ → Type 0
IsFunctionLine unit function line =
    (graph : List BasicBlock)
    × HasItsPaths unit function graph × (line ≡ shown_line graph (note_of (sums_of unit function)) ++ codes "\n")

-- A node

-- of a node of this kind: only of function definitions there is a line
abbrev pub IsLineOfKind : JudgedUnit → (handle : ℕ) → NodeKind → List ℕ → Type 0
IsLineOfKind unit handle kinds.FunctionDefinition line = IsFunctionLine unit handle line
IsLineOfKind unit handle kind line = line ≡ []

abbrev pub IsLineAt : JudgedUnit → (handle : ℕ) → List ℕ → Type 0
IsLineAt unit handle line = IsLineOfKind unit handle (kind_at unit.nodes handle) line

-- Of a unit

-- the lines of the first so many nodes, in their order
abbrev pub AreLinesBefore : JudgedUnit → (count : ℕ) → List ℕ → Type 0
AreLinesBefore unit zero text = text ≡ []
AreLinesBefore unit (suc count) text =
    (front : List ℕ) × AreLinesBefore unit count front × AppendsOne (IsLineAt unit count) front text

-- of all its nodes
abbrev pub AreFlowLines : JudgedUnit → List ℕ → Type 0
AreFlowLines unit text = AreLinesBefore unit (length unit.nodes) text
