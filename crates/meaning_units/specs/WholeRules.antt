-- What fails in a unit, what it breaks, and what is told of it.
use Rattle.std.specs.Prelude.{◌≡◌, ℕ, ◌<◌, List, length, Contains, Some, None}
use Rattle.meaning_operands.specs.Failures.{Failure, Broken}
use Rattle.meaning_warnings.specs.Listing.{IsListing}
use Rattle.meaning_rules.specs.Rules.{Judgement, Holds, first_refusal, gathered, least_broken, least_token}
use Rattle.meaning_typing.specs.Rows.{Row}
use Rattle.meaning_typing.specs.Surroundings.{Surrounding, AreSurroundings}
use Rattle.meaning_typing.specs.Units.{UnitNodes}
use Rattle.meaning_units.specs.WholeRows.{AreRows, broken_at, failures_at, passed_at}

-- Of a unit

-- a rule fails so at some node
abbrev pub Fails : UnitNodes → Failure → Type 0
Fails nodes failure =
    (surroundings : List Surrounding) × (rows : List Row) × (handle : ℕ)
    × AreSurroundings nodes surroundings × AreRows nodes surroundings rows × (handle < length nodes)
    × Contains (failures_at nodes surroundings rows handle) failure

-- some node decides that this constraint is broken, at the token where it stands
abbrev pub Breaks : UnitNodes → Broken → Type 0
Breaks nodes broken =
    (surroundings : List Surrounding) × (rows : List Row) × (handle : ℕ)
    × AreSurroundings nodes surroundings × AreRows nodes surroundings rows × (handle < length nodes) × Contains (broken_at rows handle) broken

-- Lists of them, node by node

abbrev pub failures_in : UnitNodes → List Surrounding → List Row → List Failure
failures_in nodes surroundings rows = gathered (failures_at nodes surroundings rows) (length nodes)

abbrev pub broken_in : UnitNodes → List Row → List Broken
broken_in nodes rows = gathered (broken_at rows) (length nodes)

abbrev pub passed_in : UnitNodes → List Row → List ℕ
passed_in nodes rows = gathered (passed_at rows) (length nodes)

-- What is told

-- nothing is refused, and the listing has the failures in order and each once
pub data IsJudged (nodes : UnitNodes) (surroundings : List Surrounding) (rows : List Row) : Judgement → Type 0 where
  holds : (listing : List Failure)
      → first_refusal (least_broken (broken_in nodes rows)) (least_token (passed_in nodes rows)) ≡ None
      → IsListing (failures_in nodes surroundings rows) listing → IsJudged nodes surroundings rows (Holds listing)
  refused : (judgement : Judgement)
      → first_refusal (least_broken (broken_in nodes rows)) (least_token (passed_in nodes rows)) ≡ Some judgement
      → IsJudged nodes surroundings rows judgement

-- the judgement of a unit
abbrev pub IsJudgement : UnitNodes → Judgement → Type 0
IsJudgement nodes judgement =
    (surroundings : List Surrounding) × (rows : List Row)
    × AreSurroundings nodes surroundings × AreRows nodes surroundings rows × IsJudged nodes surroundings rows judgement
