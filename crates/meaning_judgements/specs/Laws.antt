-- What holds of what is known of a unit, and of its judgement.
use Rattle.std.specs.Prelude.{◌≡◌, ◌↔◌, ℕ, List, Contains}
use Rattle.meaning_operands.specs.Failures.{Failure, Broken}
use Rattle.meaning_rules.specs.Rules.{Judgement}
use Rattle.meaning_typing.specs.Facts.{Fact}
use Rattle.meaning_typing.specs.Surroundings.{Surrounding, AreSurroundings}
use Rattle.meaning_typing.specs.Units.{UnitNodes}
use Rattle.meaning_typing.specs.WholeTyping.{whole_facts_of, whole_row_at}
use Rattle.meaning_typing.specs.laws.Surroundings.{IsLaidUnit}
use Rattle.meaning_judgements.specs.UnitRows.{unit_row_at}
use Rattle.meaning_judgements.specs.WholeFacts.{AreWholeFacts}
use Rattle.meaning_judgements.specs.WholeRules.{IsWholeJudgement, WholeBreaks, WholeFails, whole_broken_in, whole_failures_in}

-- the row of a statement tells nothing of what is known of its node
abbrev pub StatementsTellNoFacts : Type 0
StatementsTellNoFacts =
    (nodes : UnitNodes) (surroundings : List Surrounding) (earlier : List Fact) (handle : ℕ)
    → (unit_row_at nodes surroundings earlier handle).fact ≡ (whole_row_at nodes surroundings earlier handle).fact

-- in the same surroundings a unit has at most one list of facts
abbrev pub WholeFactsAreUnique : Type 0
WholeFactsAreUnique =
    (nodes : UnitNodes) (surroundings : List Surrounding) (facts others : List Fact)
    → AreWholeFacts nodes surroundings facts → AreWholeFacts nodes surroundings others → facts ≡ others

-- and has one: that which is found from the first node to the last
abbrev pub WholeFactsAreFound : Type 0
WholeFactsAreFound = (nodes : UnitNodes) (surroundings : List Surrounding) → AreWholeFacts nodes surroundings (whole_facts_of nodes surroundings)

-- a laid unit has a judgement
abbrev pub WholeJudgementsExist : Type 0
WholeJudgementsExist = (nodes : UnitNodes) → IsLaidUnit nodes → (judgement : Judgement) × IsWholeJudgement nodes judgement

-- and only one
abbrev pub WholeJudgementsAreUnique : Type 0
WholeJudgementsAreUnique =
    (nodes : UnitNodes) (judgement other : Judgement) → IsLaidUnit nodes
    → IsWholeJudgement nodes judgement → IsWholeJudgement nodes other → judgement ≡ other

-- what fails in it is what its nodes have, one after the other
abbrev pub FailuresAreGathered : Type 0
FailuresAreGathered =
    (nodes : UnitNodes) (surroundings : List Surrounding) (facts : List Fact) → IsLaidUnit nodes
    → AreSurroundings nodes surroundings → AreWholeFacts nodes surroundings facts
    → (failure : Failure) → WholeFails nodes failure ↔ Contains (whole_failures_in nodes surroundings facts) failure

-- so is what it breaks
abbrev pub BrokenAreGathered : Type 0
BrokenAreGathered =
    (nodes : UnitNodes) (surroundings : List Surrounding) (facts : List Fact) → IsLaidUnit nodes
    → AreSurroundings nodes surroundings → AreWholeFacts nodes surroundings facts
    → (broken : Broken) → WholeBreaks nodes broken ↔ Contains (whole_broken_in nodes surroundings facts) broken
