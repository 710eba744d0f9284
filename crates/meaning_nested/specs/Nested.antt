-- No structure or union lies in itself, whatever a unit has.
use Rattle.std.specs.Prelude.{◌≡◌, List}
use Rattle.meaning_rules.specs.Rules.{Judgement}
use Rattle.meaning_typing.specs.Surroundings.{Surrounding, AreSurroundings}
use Rattle.meaning_typing.specs.Units.{UnitNodes}
use Rattle.meaning_typing.specs.laws.Surroundings.{IsLaidUnit}
use Rattle.meaning_units.specs.Laws.{AreAllNested}
use Rattle.meaning_units.specs.WholeRules.{IsJudgement}

-- by what the rows of the first nodes of a laid unit tell, however many they are
abbrev pub EachUnitIsNested : Type 0
EachUnitIsNested = (nodes : UnitNodes) (surroundings : List Surrounding) → IsLaidUnit nodes → AreSurroundings nodes surroundings → AreAllNested nodes surroundings

-- so each laid unit has a judgement, and no other one
abbrev pub EachUnitHasOneJudgement : Type 0
EachUnitHasOneJudgement =
    (nodes : UnitNodes) → IsLaidUnit nodes
    → (judgement : Judgement) × IsJudgement nodes judgement × ((other : Judgement) → IsJudgement nodes other → other ≡ judgement)
