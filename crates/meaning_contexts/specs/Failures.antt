-- What fails on the control paths of the functions of a unit.
use Rattle.std.specs.Prelude.{◌≡◌, ℕ, zero, suc, ◌<◌, ℤ, pos, List, [], ◌∷◌, ◌++◌, length, Contains, Option, Some, None}
use Rattle.vocabulary.specs.declared.node_kind.NodeKind.{NodeKind}
use Rattle.vocabulary.specs.declared.node_kind.NodeKind.TheVariants as kinds
use Rattle.vocabulary.specs.declared.rule.RuleCode.{RuleCode}
use Rattle.vocabulary.specs.declared.rule.RuleCode.TheVariants.{C1, C2, C3}
use Rattle.meaning_operands.specs.Failures.{Failure}
use Rattle.meaning_paths.specs.ContextRules.{ContextAnswer, Balanced, Different, Below, WrongExit, IsAnswer}
use Rattle.meaning_typing.specs.ContextSums.{ContextSums}
use Rattle.meaning_typing.specs.Units.{UnitNodes, node_at, kind_at, child_at}
use Rattle.meaning_control.specs.Functions.{IsPathOfFunction}
use Rattle.meaning_control.specs.Nodes.{JudgedUnit}

-- A function

-- the declarator behind which its body stands (C11 6.9.1)
abbrev pub declarator_of : UnitNodes → (function : ℕ) → ℕ
declarator_of nodes function = child_at nodes function 1

abbrev pub name_of : UnitNodes → (function : ℕ) → List ℕ
name_of nodes function = (node_at nodes (declarator_of nodes function)).name

-- the counts with which it is entered and left: 0 where it carries no contexts
abbrev pub sums_or_none : Option ContextSums → ContextSums
sums_or_none None = record { enters = 0; leaves = 0 }
sums_or_none (Some sums) = sums

abbrev pub sums_of : JudgedUnit → (function : ℕ) → ContextSums
sums_of unit function = sums_or_none (unit.contexts (declarator_of unit.nodes function))

-- what the three rules say of all its paths; there is one count of contexts, for all of them
abbrev pub IsFunctionAnswer : JudgedUnit → (function : ℕ) → ContextAnswer → Type 0
IsFunctionAnswer unit function answer =
    IsAnswer (IsPathOfFunction unit function) 0 (pos (sums_of unit function).enters) (pos (sums_of unit function).leaves) answer

-- What is told of it

-- a rule fails in the function with this name; the counts are the one that is there, and the one that is wanted
abbrev pub imbalance : RuleCode → (token : ℕ) → (name : List ℕ) → (found wanted : ℤ) → Failure
imbalance rule token name found wanted =
    record { token = token; rule = rule; part = 0; first = None; second = None; name = name; number = found; wanted = wanted }

abbrev pub failures_told : (name : List ℕ) → (leaves : ℕ) → ContextAnswer → List Failure
failures_told name leaves Balanced = []
failures_told name leaves (Different token) = imbalance C1 token name (pos 0) (pos 0) ∷ []
failures_told name leaves (Below token) = imbalance C2 token name (pos 0) (pos 0) ∷ []
failures_told name leaves (WrongExit token found) = imbalance C3 token name found (pos leaves) ∷ []

abbrev pub AreFailuresOfFunction : JudgedUnit → (function : ℕ) → List Failure → Type 0
AreFailuresOfFunction unit function failures =
    (answer : ContextAnswer) × IsFunctionAnswer unit function answer
    × (failures ≡ failures_told (name_of unit.nodes function) (sums_of unit function).leaves answer)

-- Of a unit

-- at a node of this kind
abbrev pub AreFailuresByKind : JudgedUnit → (handle : ℕ) → NodeKind → List Failure → Type 0
AreFailuresByKind unit handle kinds.FunctionDefinition failures = AreFailuresOfFunction unit handle failures
AreFailuresByKind unit handle kind failures = failures ≡ []

abbrev pub AreFailuresAt : JudgedUnit → (handle : ℕ) → List Failure → Type 0
AreFailuresAt unit handle failures = AreFailuresByKind unit handle (kind_at unit.nodes handle) failures

-- at the first so many nodes, one behind the other
abbrev pub AreFailuresBefore : JudgedUnit → (count : ℕ) → List Failure → Type 0
AreFailuresBefore unit zero failures = failures ≡ []
AreFailuresBefore unit (suc count) failures =
    (before : List Failure) × (here : List Failure)
    × AreFailuresBefore unit count before × AreFailuresAt unit count here × (failures ≡ before ++ here)

-- at all its nodes
abbrev pub AreContextFailures : JudgedUnit → List Failure → Type 0
AreContextFailures unit failures = AreFailuresBefore unit (length unit.nodes) failures

-- a rule on contexts fails so in some function
abbrev pub FailsOnPaths : JudgedUnit → Failure → Type 0
FailsOnPaths unit failure =
    (function : ℕ) × (failures : List Failure)
    × (function < length unit.nodes) × AreFailuresAt unit function failures × Contains failures failure
