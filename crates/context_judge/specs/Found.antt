-- What is found of a unit that was judged.
use Rattle.std.specs.Prelude.{List}
use Rattle.sparse_model.specs.declared.failure.Failure.{Failure}
use Rattle.meaning_typing.specs.Units.{UnitNodes}
use Rattle.meaning_units.specs.WholeRows.{facts_of}
use Rattle.meaning_contexts.specs.Failures.{AreContextFailures}
use Rattle.meaning_contexts.specs.Units.{judged_of}
pub use Rattle.type_judge.specs.Found.{found_seen}
use Rattle.type_judge.specs.Judging.{IsJudgedSo}
use Rattle.type_judge.specs.declared.judging.Judged.{Judged}

-- these fail on its paths, by what its nodes stand in and what is known of them
abbrev pub AreContextFailuresOf : UnitNodes → Judged → List Failure → Type 0
AreContextFailuresOf nodes judged failures =
    (is : IsJudgedSo nodes judged) → AreContextFailures (judged_of nodes is.surroundings (facts_of is.rows)) (found_seen judged.types failures)
