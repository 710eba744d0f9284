-- The paths of a function of a unit.
use Rattle.std.specs.Prelude.{ℕ, List, length, get_or}
use Rattle.meaning_paths.specs.Steps.{Step}
use Rattle.meaning_typing.specs.Units.{node_at}
use Rattle.meaning_typing.specs.Evaluation.{evaluated_parts}
use Rattle.meaning_control.specs.Kinds.{Body}
use Rattle.meaning_control.specs.States.{ControlNode, Node, parts_of, IsControlPath}
use Rattle.meaning_control.specs.Nodes.{JudgedUnit, control_at, controls_of}

-- the compound statement of a function: what is evaluated of it (C11 6.9.1)
abbrev pub statement_of : JudgedUnit → (function : ℕ) → ℕ
statement_of unit function = get_or (evaluated_parts unit.nodes unit.facts function) 0 (length unit.nodes)

-- its items are the body; they stand before the function
abbrev pub body_of : JudgedUnit → (function : ℕ) → ControlNode
body_of unit function =
    Node Body (node_at unit.nodes (statement_of unit function)).token
    (parts_of (control_at (controls_of unit function) (statement_of unit function)).plain)

-- the token of its `}`
abbrev pub closing_brace : JudgedUnit → (function : ℕ) → ℕ
closing_brace unit function = (node_at unit.nodes (statement_of unit function)).number

-- control may pass these steps in the function, the last one first
abbrev pub IsPathOfFunction : JudgedUnit → (function : ℕ) → List Step → Type 0
IsPathOfFunction unit function path = IsControlPath (closing_brace unit function) (body_of unit function) path
