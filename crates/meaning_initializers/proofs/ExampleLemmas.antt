-- The examples, each with what the plain program finds at a depth that is enough for all of them.
use Rattle.std.proofs.Common.{◌≡◌, Bool, Option, Some, None, refl}
use Rattle.std.proofs.lemmas.Option.{same_Some}
use Rattle.meaning_types.specs.Types.{TypeTree}
use Rattle.meaning_initializers.specs.Items.{Initializer}
use Rattle.meaning_initializers.specs.Parts.{Aggregates}
use Rattle.meaning_initializers.specs.Plans.{Refusal}
use Rattle.meaning_initializers.specs.Filling.{Outcome, Initializes}
use Rattle.meaning_initializers.specs.Reading.{refusal_told}
use Rattle.meaning_initializers.specs.plain.Filling.{initialized}
use Rattle.meaning_initializers.specs.examples.Written.{told}
use Rattle.meaning_initializers.specs.examples.Refusals.{IsTold}
use Rattle.meaning_initializers.proofs.Answering.{answers_are_outcomes}

pub found_so : (aggregates : Aggregates) (is_static : Bool) (object : TypeTree) (initializer : Initializer) (outcome : Outcome)
    → initialized aggregates is_static 20 object initializer ≡ Some outcome → Initializes aggregates is_static object initializer outcome
found_so aggregates is_static object initializer outcome found = answers_are_outcomes aggregates is_static 20 object initializer outcome found

-- what is told of an answer
abbrev told_in : Option Outcome → Option (Option Refusal)
told_in None = None
told_in (Some outcome) = Some (refusal_told outcome.refusals)

told_by : (is_static : Bool) (object : TypeTree) (initializer : Initializer) (refusal : Option Refusal) (answer : Option Outcome)
    → initialized told is_static 20 object initializer ≡ answer → told_in answer ≡ Some refusal → IsTold is_static object initializer refusal
told_by is_static object initializer refusal None found is = absurd (cc is)
told_by is_static object initializer refusal (Some outcome) found is =
    (outcome, answers_are_outcomes told is_static 20 object initializer outcome found, same_Some (refusal_told outcome.refusals) refusal is)

pub told_so : (is_static : Bool) (object : TypeTree) (initializer : Initializer) (refusal : Option Refusal)
    → told_in (initialized told is_static 20 object initializer) ≡ Some refusal → IsTold is_static object initializer refusal
told_so is_static object initializer refusal is =
    told_by is_static object initializer refusal (initialized told is_static 20 object initializer) refl is
