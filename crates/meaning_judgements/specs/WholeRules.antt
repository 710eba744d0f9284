-- What fails in a unit with structures, unions and enumerations, what it breaks, and what is told of it.
use Rattle.std.specs.Prelude.{◌≡◌, ℕ, ◌<◌, List, length, Contains, Some, None}
use Rattle.meaning_operands.specs.Failures.{Failure, Broken}
use Rattle.meaning_warnings.specs.Listing.{IsListing}
use Rattle.meaning_rules.specs.Rules.{Judgement, Holds, first_refusal, gathered, least_broken, least_token}
use Rattle.meaning_typing.specs.Facts.{Fact}
use Rattle.meaning_typing.specs.Surroundings.{Surrounding, AreSurroundings}
use Rattle.meaning_typing.specs.Units.{UnitNodes}
use Rattle.meaning_judgements.specs.WholeFacts.{AreWholeFacts, whole_broken_at, whole_failures_at, whole_passed_at}

-- Of a unit

-- a rule fails so at some node
abbrev pub WholeFails : UnitNodes → Failure → Type 0
WholeFails nodes failure =
    (surroundings : List Surrounding) × (facts : List Fact) × (handle : ℕ)
    × AreSurroundings nodes surroundings × AreWholeFacts nodes surroundings facts × (handle < length nodes)
    × Contains (whole_failures_at nodes surroundings facts handle) failure

-- some node decides that this constraint is broken, at the token where it stands
abbrev pub WholeBreaks : UnitNodes → Broken → Type 0
WholeBreaks nodes broken =
    (surroundings : List Surrounding) × (facts : List Fact) × (handle : ℕ)
    × AreSurroundings nodes surroundings × AreWholeFacts nodes surroundings facts × (handle < length nodes)
    × Contains (whole_broken_at nodes surroundings facts handle) broken

-- Lists of them, node by node

abbrev pub whole_failures_in : UnitNodes → List Surrounding → List Fact → List Failure
whole_failures_in nodes surroundings facts = gathered (whole_failures_at nodes surroundings facts) (length nodes)

abbrev pub whole_broken_in : UnitNodes → List Surrounding → List Fact → List Broken
whole_broken_in nodes surroundings facts = gathered (whole_broken_at nodes surroundings facts) (length nodes)

abbrev pub whole_passed_in : UnitNodes → List Surrounding → List Fact → List ℕ
whole_passed_in nodes surroundings facts = gathered (whole_passed_at nodes surroundings facts) (length nodes)

-- What is told

-- nothing is refused, and the listing has the failures in order and each once
pub data IsWholeJudged (nodes : UnitNodes) (surroundings : List Surrounding) (facts : List Fact) : Judgement → Type 0 where
  holds : (listing : List Failure)
      → first_refusal (least_broken (whole_broken_in nodes surroundings facts)) (least_token (whole_passed_in nodes surroundings facts)) ≡ None
      → IsListing (whole_failures_in nodes surroundings facts) listing → IsWholeJudged nodes surroundings facts (Holds listing)
  refused : (judgement : Judgement)
      → first_refusal (least_broken (whole_broken_in nodes surroundings facts)) (least_token (whole_passed_in nodes surroundings facts)) ≡ Some judgement
      → IsWholeJudged nodes surroundings facts judgement

-- the judgement of a unit
abbrev pub IsWholeJudgement : UnitNodes → Judgement → Type 0
IsWholeJudgement nodes judgement =
    (surroundings : List Surrounding) × (facts : List Fact)
    × AreSurroundings nodes surroundings × AreWholeFacts nodes surroundings facts × IsWholeJudged nodes surroundings facts judgement
