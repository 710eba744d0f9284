-- What holds of the rows of a unit, and of its judgement.
use Rattle.std.specs.Prelude.{◌≡◌, ◌↔◌, ℕ, List, Contains}
use Rattle.meaning_operands.specs.Failures.{Failure, Broken}
use Rattle.meaning_rules.specs.Rules.{Judgement}
use Rattle.meaning_typing.specs.Rows.{Row}
use Rattle.meaning_typing.specs.Surroundings.{Surrounding, AreSurroundings}
use Rattle.meaning_typing.specs.Units.{UnitNodes}
use Rattle.meaning_typing.specs.laws.Surroundings.{IsLaidUnit}
use Rattle.meaning_initializers.specs.Reading.{aggregates_behind}
use Rattle.meaning_initializers.specs.laws.Filling.{AreNested}
use Rattle.meaning_units.specs.WholeRows.{AreFirstRows, AreRows, facts_of}
use Rattle.meaning_units.specs.WholeRules.{Breaks, Fails, IsJudgement, broken_in, failures_in}

-- in the same surroundings a unit has at most one list of rows
abbrev pub RowsAreUnique : Type 0
RowsAreUnique =
    (nodes : UnitNodes) (surroundings : List Surrounding) (rows others : List Row)
    → AreRows nodes surroundings rows → AreRows nodes surroundings others → rows ≡ others

-- no structure or union lies in itself, by what the rows of the first nodes tell, however many they are
abbrev pub AreAllNested : UnitNodes → List Surrounding → Type 0
AreAllNested nodes surroundings =
    (rows : List Row) → AreFirstRows nodes surroundings rows
    → (heights : ℕ → ℕ) × AreNested (aggregates_behind nodes surroundings (facts_of rows)) heights

-- then it has one
abbrev pub RowsExist : Type 0
RowsExist = (nodes : UnitNodes) (surroundings : List Surrounding) → AreAllNested nodes surroundings → (rows : List Row) × AreRows nodes surroundings rows

-- a laid unit has at most one judgement
abbrev pub JudgementsAreUnique : Type 0
JudgementsAreUnique =
    (nodes : UnitNodes) (judgement other : Judgement) → IsLaidUnit nodes → IsJudgement nodes judgement → IsJudgement nodes other → judgement ≡ other

-- and has one where no structure or union lies in itself
abbrev pub JudgementsExist : Type 0
JudgementsExist =
    (nodes : UnitNodes) → IsLaidUnit nodes → ((surroundings : List Surrounding) → AreSurroundings nodes surroundings → AreAllNested nodes surroundings)
    → (judgement : Judgement) × IsJudgement nodes judgement

-- what fails in it is what its nodes have, one after the other
abbrev pub FailuresAreGathered : Type 0
FailuresAreGathered =
    (nodes : UnitNodes) (surroundings : List Surrounding) (rows : List Row) → IsLaidUnit nodes
    → AreSurroundings nodes surroundings → AreRows nodes surroundings rows
    → (failure : Failure) → Fails nodes failure ↔ Contains (failures_in nodes surroundings rows) failure

-- so is what it breaks
abbrev pub BrokenAreGathered : Type 0
BrokenAreGathered =
    (nodes : UnitNodes) (surroundings : List Surrounding) (rows : List Row) → IsLaidUnit nodes
    → AreSurroundings nodes surroundings → AreRows nodes surroundings rows
    → (broken : Broken) → Breaks nodes broken ↔ Contains (broken_in nodes rows) broken
