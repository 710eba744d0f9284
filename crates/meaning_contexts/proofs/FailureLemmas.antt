-- A unit has one list of failures on paths, which has what fails; and functions without failures are balanced.
use Rattle.std.proofs.Common.{◌≡◌, ◌⊎◌, inl, inr, ℕ, zero, suc, ◌<◌, pos, List, [], ◌∷◌, ◌++◌, length, Contains, refl, sym, ap, subst, ◌∙◌, arith}
use Rattle.std.proofs.lemmas.List.Elements.{Contains-append_left, Contains-append_right, Contains-append_cases}
use Rattle.vocabulary.specs.declared.class.Class.TheVariants as classes
use Rattle.vocabulary.specs.declared.node_kind.NodeKind.{NodeKind}
use Rattle.vocabulary.specs.declared.node_kind.NodeKind.TheVariants as kinds
use Rattle.vocabulary.specs.Rules.{rule_class}
use Rattle.meaning_operands.specs.Failures.{Failure}
use Rattle.meaning_paths.specs.ContextRules.{ContextAnswer, Balanced, Different, Below, WrongExit}
use Rattle.meaning_paths.proofs.RuleLemmas.{balances, one_answer}
use Rattle.meaning_typing.specs.Units.{kind_at}
use Rattle.meaning_control.specs.Functions.{IsPathOfFunction}
use Rattle.meaning_control.specs.Nodes.{JudgedUnit}
use Rattle.meaning_contexts.specs.Failures.{AreFailuresAt, AreFailuresBefore, AreFailuresByKind, AreFailuresOfFunction, IsFunctionAnswer, failures_told, name_of, sums_of}
use Rattle.meaning_reached.proofs.Calls.{function_has_an_answer}
use Rattle.meaning_contexts.specs.Laws.{ContextFailuresAreOfOneClass, ContextFailuresAreUnique, ContextFailuresExist, FailuresOnPathsAreGathered, IsBalanced, UntoldFunctionsBalance}

-- One list

function-once : (unit : JudgedUnit) (function : ℕ) (failures others : List Failure) → AreFailuresOfFunction unit function failures → AreFailuresOfFunction unit function others → failures ≡ others
function-once unit function failures others (answer, is, told) (other, also, also_told) =
    let sums = sums_of unit function in
    let same = one_answer (IsPathOfFunction unit function) 0 (pos sums.enters) (pos sums.leaves) answer other is also in
    told ∙ ap (failures_told (name_of unit.nodes function) sums.leaves) same ∙ sym also_told

by-kind-once :
    (unit : JudgedUnit) (handle : ℕ) (kind : NodeKind) (failures others : List Failure)
    → AreFailuresByKind unit handle kind failures → AreFailuresByKind unit handle kind others → failures ≡ others
by-kind-once unit handle kinds.FunctionDefinition failures others is also = function-once unit handle failures others is also
by-kind-once unit handle kind failures others is also = is ∙ sym also

before-once :
    (unit : JudgedUnit) (count : ℕ) (failures others : List Failure)
    → AreFailuresBefore unit count failures → AreFailuresBefore unit count others → failures ≡ others
before-once unit zero failures others is also = is ∙ sym also
before-once unit (suc count) failures others (before, here, are_before, are_here, all) (other_before, other_here, also_before, also_here, also_all) =
    let same_before = before-once unit count before other_before are_before also_before in
    let same_here = by-kind-once unit count (kind_at unit.nodes count) here other_here are_here also_here in
    all ∙ ap (λ front. front ++ here) same_before ∙ ap (λ back. other_before ++ back) same_here ∙ sym also_all

pub failures_are_unique : ContextFailuresAreUnique
failures_are_unique unit failures others is also = before-once unit (length unit.nodes) failures others is also

-- And there is one

by-kind-exists : (unit : JudgedUnit) (handle : ℕ) (kind : NodeKind) → (failures : List Failure) × AreFailuresByKind unit handle kind failures
by-kind-exists unit handle kinds.FunctionDefinition =
    let sums = sums_of unit handle in
    let answered = function_has_an_answer unit handle 0 (pos sums.enters) (pos sums.leaves) in
    (failures_told (name_of unit.nodes handle) sums.leaves answered.0, (answered.0, answered.1, refl))
by-kind-exists unit handle kind = ([], refl)

before-exists : (unit : JudgedUnit) (count : ℕ) → (failures : List Failure) × AreFailuresBefore unit count failures
before-exists unit zero = ([], refl)
before-exists unit (suc count) =
    let before = before-exists unit count in
    let here = by-kind-exists unit count (kind_at unit.nodes count) in
    (before.0 ++ here.0, (before.0, here.0, before.1, here.1, refl))

pub failures_exist : ContextFailuresExist
failures_exist unit = before-exists unit (length unit.nodes)

-- What it has

earlier-or-last : (count all : ℕ) → count < suc all → (count < all) ⊎ (count ≡ all)
earlier-or-last count all within = grind arith

before-has :
    (unit : JudgedUnit) (count : ℕ) (failures : List Failure) → AreFailuresBefore unit count failures
    → (function : ℕ) (own : List Failure) → function < count → AreFailuresAt unit function own
    → (failure : Failure) → Contains own failure → Contains failures failure
before-has unit zero failures is function own within are failure has = absurd (omega (arith, within))
before-has unit (suc count) failures (before, here, are_before, are_here, all) function own within are failure has =
    subst (λ list. Contains list failure) (sym all)
    (elim (earlier-or-last function count within) [
      | inl earlier ↦ Contains-append_left before here failure (before-has unit count before are_before function own earlier are failure has)
      | inr last ↦
          let also = subst (λ handle. AreFailuresAt unit handle own) last are in
          let same = by-kind-once unit count (kind_at unit.nodes count) own here also are_here in
          Contains-append_right before here failure (subst (λ list. Contains list failure) same has)
    ])

before-from :
    (unit : JudgedUnit) (count : ℕ) (failures : List Failure) → AreFailuresBefore unit count failures → (failure : Failure) → Contains failures failure
    → (function : ℕ) × (own : List Failure) × (function < count) × AreFailuresAt unit function own × Contains own failure
before-from unit zero failures is failure has =
    let none = subst (λ list. Contains list failure) is has in
    absurd (omega (arith, none.1))
before-from unit (suc count) failures (before, here, are_before, are_here, all) failure has =
    elim (Contains-append_cases before here failure (subst (λ list. Contains list failure) all has)) [
      | inl earlier ↦
          let found = before-from unit count before are_before failure earlier in
          (found.0, found.1, omega (arith, found.2), found.3, found.4)
      | inr last ↦ (count, here, omega arith, are_here, last)
    ]

pub failures_are_gathered : FailuresOnPathsAreGathered
failures_are_gathered unit failures are failure = (
  λ fails. before-has unit (length unit.nodes) failures are fails.0 fails.1 fails.2 fails.3 failure fails.4,
  λ has. before-from unit (length unit.nodes) failures are failure has,
)

-- Balance

-- each function has its own among those of a unit
own-among :
    (unit : JudgedUnit) (count : ℕ) (failures : List Failure) → AreFailuresBefore unit count failures → (function : ℕ) → function < count
    → (own : List Failure) × AreFailuresAt unit function own × ((failure : Failure) → Contains own failure → Contains failures failure)
own-among unit zero failures is function within = absurd (omega (arith, within))
own-among unit (suc count) failures (before, here, are_before, are_here, all) function within =
    elim (earlier-or-last function count within) [
      | inl earlier ↦
          let found = own-among unit count before are_before function earlier in
          (found.0, found.1, λ failure has. subst (λ list. Contains list failure) (sym all) (Contains-append_left before here failure (found.2 failure has)))
      | inr last ↦ (
        here,
        subst (λ handle. AreFailuresAt unit handle here) (sym last) are_here,
        λ failure has. subst (λ list. Contains list failure) (sym all) (Contains-append_right before here failure has),
      )
    ]

-- a function of which nothing is told
untold-balances :
    (unit : JudgedUnit) (function : ℕ) (answer : ContextAnswer) → IsFunctionAnswer unit function answer
    → ((failure : Failure) → Contains (failures_told (name_of unit.nodes function) (sums_of unit function).leaves answer) failure → ⊥)
    → IsBalanced unit function
untold-balances unit function Balanced is none =
    λ path token passes. balances (IsPathOfFunction unit function) 0 (pos (sums_of unit function).enters) (pos (sums_of unit function).leaves) is path token passes
untold-balances unit function (Different token) is none = absurd (none _ (0, omega arith, refl))
untold-balances unit function (Below token) is none = absurd (none _ (0, omega arith, refl))
untold-balances unit function (WrongExit token found) is none = absurd (none _ (0, omega arith, refl))

contains-none : (failure : Failure) → Contains [] failure → ⊥
contains-none failure (place, within, is) = omega (arith, within)

pub untold_functions_balance : UntoldFunctionsBalance
untold_functions_balance unit are function within kind =
    let (own, are_own, among) = own-among unit (length unit.nodes) [] are function within in
    let (answer, is, told) = subst (λ now. AreFailuresByKind unit function now own) kind are_own in
    untold-balances unit function answer is
    (λ failure has. contains-none failure (among failure (subst (λ list. Contains list failure) (sym told) has)))

-- The class of what fails

class-of-one : (one failure : Failure) → Contains (one ∷ []) failure → rule_class one.rule ≡ classes.Context → rule_class failure.rule ≡ classes.Context
class-of-one one failure (zero, within, is) class_ = subst (λ now. rule_class now.rule ≡ classes.Context) is class_
class-of-one one failure (suc place, within, is) class_ = absurd (omega (arith, within))

told-class :
    (name : List ℕ) (leaves : ℕ) (answer : ContextAnswer) (failure : Failure) → Contains (failures_told name leaves answer) failure
    → rule_class failure.rule ≡ classes.Context
told-class name leaves Balanced failure (place, within, is) = absurd (omega (arith, within))
told-class name leaves (Different token) failure has = class-of-one _ failure has refl
told-class name leaves (Below token) failure has = class-of-one _ failure has refl
told-class name leaves (WrongExit token found) failure has = class-of-one _ failure has refl

by-kind-class :
    (unit : JudgedUnit) (handle : ℕ) (kind : NodeKind) (failures : List Failure) (failure : Failure) → AreFailuresByKind unit handle kind failures
    → Contains failures failure → rule_class failure.rule ≡ classes.Context
by-kind-class unit handle kinds.FunctionDefinition failures failure (answer, is, told) has =
    told-class (name_of unit.nodes handle) (sums_of unit handle).leaves answer failure (subst (λ list. Contains list failure) told has)
by-kind-class unit handle kind failures failure is has =
    let none = subst (λ list. Contains list failure) is has in
    absurd (omega (arith, none.1))

pub failures_are_of_one_class : ContextFailuresAreOfOneClass
failures_are_of_one_class unit failures are failure has =
    let (function, own, within, are_own, own_has) = before-from unit (length unit.nodes) failures are failure has in
    by-kind-class unit function (kind_at unit.nodes function) own failure are_own own_has
