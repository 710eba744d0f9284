-- That the rules have an answer over the paths of a graph, of a body and of a function.
use Rattle.std.specs.Prelude.{ℕ, ℤ, List}
use Rattle.meaning_paths.specs.Steps.{Step}
use Rattle.meaning_paths.specs.Graphs.{BasicBlock, IsPathOf, IsClosed, BeginsWithPoint, EachBeginsWithPoint}
use Rattle.meaning_paths.specs.ContextRules.{ContextAnswer, IsAnswer}
use Rattle.meaning_control.specs.Kinds.{ControlKind, Calling}
use Rattle.meaning_control.specs.States.{ControlNode, Node, ControlNodes, NoNodes, Nodes, IsControlPath}
use Rattle.meaning_control.specs.Nodes.{JudgedUnit}
use Rattle.meaning_control.specs.Functions.{IsPathOfFunction}

-- whatever key is counted, and with which count the paths begin and should leave
abbrev pub HaveAnAnswer : (List Step → Type 0) → Type 0
HaveAnAnswer IsPath = (key : ℕ) (start leaves : ℤ) → (answer : ContextAnswer) × IsAnswer IsPath key start leaves answer

-- Where blocks begin with points, the first rule speaks of each step that is reached with several counts.
abbrev pub GraphsHaveAnAnswer : Type 0
GraphsHaveAnAnswer = (graph : List BasicBlock) → IsClosed graph → EachBeginsWithPoint graph → HaveAnAnswer (IsPathOf graph)

-- what a node of this kind passes as a call begins with a point, if it passes anything
abbrev pub CallBeginsWithPoint : ControlKind → Type 0
CallBeginsWithPoint (Calling passes outcomes) = BeginsWithPoint passes
CallBeginsWithPoint kind = Unit {0}

abbrev mutual
  -- so does each call in it
  pub CallsBeginWithPoints : ControlNode → Type 0
  CallsBeginWithPoints (Node kind token parts) = CallBeginsWithPoint kind × EachCallBeginsWithPoint parts

  pub EachCallBeginsWithPoint : ControlNodes → Type 0
  EachCallBeginsWithPoint NoNodes = Unit {0}
  EachCallBeginsWithPoint (Nodes first others) = CallsBeginWithPoints first × EachCallBeginsWithPoint others

abbrev pub BodiesHaveAnAnswer : Type 0
BodiesHaveAnAnswer = (brace : ℕ) (body : ControlNode) → CallsBeginWithPoints body → HaveAnAnswer (IsControlPath brace body)

abbrev pub FunctionsHaveAnAnswer : Type 0
FunctionsHaveAnAnswer = (unit : JudgedUnit) (function : ℕ) → HaveAnAnswer (IsPathOfFunction unit function)
