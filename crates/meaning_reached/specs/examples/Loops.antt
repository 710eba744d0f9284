-- Worked examples: the answer of a loop.
use Rattle.std.specs.Prelude.{pos, true, [], ◌∷◌}
use Rattle.meaning_paths.specs.ContextRules.{Different, IsAnswer}
use Rattle.meaning_control.specs.Kinds.{Value, Body, While, Context}
use Rattle.meaning_control.specs.States.{ControlNode, Node, NoNodes, Nodes, IsControlPath}

-- { while (1) __context__(l, 1); }
abbrev pub acquiring_loop : ControlNode
acquiring_loop = Node While 1 (Nodes (Node (Value (true ∷ [])) 3 NoNodes) (Nodes (Node (Context (pos 1)) 5 NoNodes) NoNodes))

abbrev pub acquiring_body : ControlNode
acquiring_body = Node Body 0 (Nodes acquiring_loop NoNodes)

-- counts differ at the moment before its condition
abbrev pub LoopExample : Type 0
LoopExample = IsAnswer (IsControlPath 12 acquiring_body) 0 (pos 0) (pos 0) (Different 1)
