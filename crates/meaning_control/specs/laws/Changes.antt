-- What holds where nothing changes a count.
use Rattle.std.specs.Prelude.{◌≡◌, ℕ, ℤ, Bool, true, List, [], ◌∷◌, Option, Some, None}
use Rattle.vocabulary.specs.declared.node_kind.NodeKind.{NodeKind}
use Rattle.vocabulary.specs.declared.node_kind.NodeKind.TheVariants as kinds
use Rattle.meaning_typing.specs.Units.{kind_at, child_at}
use Rattle.meaning_paths.specs.Steps.{Step, Point, Add, Call, End}
use Rattle.meaning_paths.specs.ContextRules.{Balanced, IsAnswer}
use Rattle.meaning_control.specs.Kinds.{ControlKind, Calling, Context}
use Rattle.meaning_control.specs.Nodes.{JudgedUnit, control_at, passed_of, controls_of}
use Rattle.meaning_control.specs.Functions.{statement_of, body_of}
use Rattle.meaning_control.specs.States.{ControlNode, Node, ControlNodes, NoNodes, Nodes, IsControlPath}

-- the steps are points and ends alone
abbrev pub ChangesNothing : List Step → Type 0
ChangesNothing [] = Unit {0}
ChangesNothing (Point token moment ∷ steps) = ChangesNothing steps
ChangesNothing (Add token key by ∷ steps) = ⊥
ChangesNothing (Call token key enters leaves ∷ steps) = ⊥
ChangesNothing (End token ∷ steps) = ChangesNothing steps

-- where no path has a change, and what is left with is what is entered with, paths are balanced
abbrev pub NoChangeNoFailure : (List Step → Type 0) → Type 0
NoChangeNoFailure IsPath =
    ((path : List Step) → IsPath path → ChangesNothing path) → (key : ℕ) (count : ℤ) → IsAnswer IsPath key count count Balanced

-- a node of this kind is no context statement, and no call of a function with contexts
abbrev pub KeepsCounts : ControlKind → Type 0
KeepsCounts (Context by) = ⊥
KeepsCounts (Calling passes outcomes) = ChangesNothing passes
KeepsCounts kind = Unit {0}

abbrev mutual
  -- no node of it is one
  pub IsWithoutChanges : ControlNode → Type 0
  IsWithoutChanges (Node kind token parts) = KeepsCounts kind × AreWithoutChanges parts

  pub AreWithoutChanges : ControlNodes → Type 0
  AreWithoutChanges NoNodes = Unit {0}
  AreWithoutChanges (Nodes first others) = IsWithoutChanges first × AreWithoutChanges others

-- no path of such a body has a change
abbrev pub BodiesWithoutChanges : Type 0
BodiesWithoutChanges = (brace : ℕ) (body : ControlNode) → IsWithoutChanges body → (path : List Step) → IsControlPath brace body path → ChangesNothing path

-- In a unit

-- the function that a node names has no contexts
abbrev pub NamesNone : JudgedUnit → Option ℕ → Type 0
NamesNone unit None = Unit {0}
NamesNone unit (Some function) = unit.contexts function ≡ None

-- a node of this kind is no context statement, and no call by name of a function with contexts
abbrev pub NodeKeepsCounts : JudgedUnit → (handle : ℕ) → NodeKind → Type 0
NodeKeepsCounts unit handle kinds.ContextStatement = ⊥
NodeKeepsCounts unit handle kinds.Call = NamesNone unit (control_at (controls_of unit handle) (child_at unit.nodes handle 0)).names
NodeKeepsCounts unit handle kind = Unit {0}

abbrev pub AreAmong : (ℕ → Bool) → List ℕ → Type 0
AreAmong is_among [] = Unit {0}
AreAmong is_among (handle ∷ handles) = (is_among handle ≡ true) × AreAmong is_among handles

-- nodes none of which is one, and what is passed of them is among them
pub record AreWithoutContexts (unit : JudgedUnit) (is_among : ℕ → Bool) : Type 0 where
  pub keep : (handle : ℕ) → is_among handle ≡ true → NodeKeepsCounts unit handle (kind_at unit.nodes handle)
  pub parts : (handle : ℕ) → is_among handle ≡ true → AreAmong is_among (passed_of unit handle (kind_at unit.nodes handle))

-- a function whose nodes are such ones has a body without changes
abbrev pub FunctionsWithoutContexts : Type 0
FunctionsWithoutContexts =
    (unit : JudgedUnit) (function : ℕ) (is_among : ℕ → Bool) → AreWithoutContexts unit is_among → is_among (statement_of unit function) ≡ true
    → IsWithoutChanges (body_of unit function)
