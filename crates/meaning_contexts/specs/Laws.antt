-- What holds of failures on paths.
use Rattle.std.specs.Prelude.{◌≡◌, ◌≢◌, ◌↔◌, ℕ, ◌<◌, pos, List, [], ◌∷◌, length, Contains}
use Rattle.vocabulary.specs.declared.node_kind.NodeKind.TheVariants.{FunctionDefinition, ContextAttribute, ContextStatement}
use Rattle.vocabulary.specs.declared.class.Class.TheVariants.{Context}
use Rattle.vocabulary.specs.Rules.{rule_class}
use Rattle.meaning_operands.specs.Failures.{Failure}
use Rattle.meaning_paths.specs.Steps.{Step, End, count}
use Rattle.meaning_typing.specs.Facts.{Fact}
use Rattle.meaning_typing.specs.Surroundings.{Surrounding}
use Rattle.meaning_typing.specs.Units.{UnitNodes, kind_at}
use Rattle.meaning_control.specs.Functions.{IsPathOfFunction}
use Rattle.meaning_control.specs.Nodes.{JudgedUnit}
use Rattle.meaning_contexts.specs.Failures.{AreContextFailures, FailsOnPaths, sums_of}
use Rattle.meaning_contexts.specs.Units.{judged_of}

-- There is one list

abbrev pub ContextFailuresExist : Type 0
ContextFailuresExist = (unit : JudgedUnit) → (failures : List Failure) × AreContextFailures unit failures

abbrev pub ContextFailuresAreUnique : Type 0
ContextFailuresAreUnique =
    (unit : JudgedUnit) (failures others : List Failure) → AreContextFailures unit failures → AreContextFailures unit others → failures ≡ others

-- It has what fails

abbrev pub FailuresOnPathsAreGathered : Type 0
FailuresOnPathsAreGathered =
    (unit : JudgedUnit) (failures : List Failure) → AreContextFailures unit failures
    → (failure : Failure) → FailsOnPaths unit failure ↔ Contains failures failure

-- Balance

-- each path of the function that comes to an end, entered with the count that the function is entered with, has the one there with which it
-- is left
abbrev pub IsBalanced : JudgedUnit → (function : ℕ) → Type 0
IsBalanced unit function =
    (path : List Step) (token : ℕ) → IsPathOfFunction unit function (End token ∷ path)
    → count 0 (pos (sums_of unit function).enters) path ≡ pos (sums_of unit function).leaves

-- where nothing fails on paths, each function is balanced
abbrev pub UntoldFunctionsBalance : Type 0
UntoldFunctionsBalance =
    (unit : JudgedUnit) → AreContextFailures unit []
    → (function : ℕ) → function < length unit.nodes → kind_at unit.nodes function ≡ FunctionDefinition → IsBalanced unit function

-- all that fails on paths is of the class of contexts
abbrev pub ContextFailuresAreOfOneClass : Type 0
ContextFailuresAreOfOneClass =
    (unit : JudgedUnit) (failures : List Failure) → AreContextFailures unit failures
    → (failure : Failure) → Contains failures failure → rule_class failure.rule ≡ Context

-- Units without contexts

-- no attribute says a context, and no statement changes a count
abbrev pub IsWithoutContexts : UnitNodes → Type 0
IsWithoutContexts nodes = (handle : ℕ) → (kind_at nodes handle ≢ ContextAttribute) × (kind_at nodes handle ≢ ContextStatement)

-- there nothing fails on paths
abbrev pub UnitsWithoutContextsFailNowhere : Type 0
UnitsWithoutContextsFailNowhere =
    (nodes : UnitNodes) (surroundings : List Surrounding) (facts : List Fact) → IsWithoutContexts nodes
    → AreContextFailures (judged_of nodes surroundings facts) []
