-- The graph that a flow is.
use Rattle.std.specs.Prelude.{ℕ, List, map}
use Rattle.meaning_paths.specs.Steps as steps
use Rattle.meaning_paths.specs.Graphs.{BasicBlock}
use Rattle.meaning_paths.specs.ContextRules as rules
use Rattle.control_flow.specs.declared.step.Step.{Step}
use Rattle.control_flow.specs.declared.step.Step.TheVariants.{Point, Add, Call, End}
use Rattle.control_flow.specs.declared.flow.Block.{Block}
use Rattle.control_flow.specs.declared.flow.Flow.{Flow}
use Rattle.control_flow.specs.declared.note.ContextAnswer.{ContextAnswer}
use Rattle.control_flow.specs.declared.note.ContextAnswer.TheVariants.{Balanced, Different, Below, WrongExit}

-- the one key that there is
abbrev pub the_key : ℕ
the_key = 0

abbrev pub step_of : Step → steps.Step
step_of (Point token moment) = steps.Point token moment
step_of (Add token by) = steps.Add token the_key by
step_of (Call token enters leaves) = steps.Call token the_key enters leaves
step_of (End token) = steps.End token

-- the numbers of successors, without their tags
abbrev pub targets : List (ℕ × ℕ) → List ℕ
targets next = map (λ pair. pair.0) next

abbrev pub block_of : Block → BasicBlock
block_of block = record { steps = map step_of block.steps; successors = targets block.next }

abbrev pub graph_of_blocks : List Block → List BasicBlock
graph_of_blocks blocks = map block_of blocks

abbrev pub graph_of : Flow → List BasicBlock
graph_of flow = graph_of_blocks flow.blocks

abbrev pub answer_of : ContextAnswer → rules.ContextAnswer
answer_of Balanced = rules.Balanced
answer_of (Different token) = rules.Different token
answer_of (Below token) = rules.Below token
answer_of (WrongExit token found) = rules.WrongExit token found
