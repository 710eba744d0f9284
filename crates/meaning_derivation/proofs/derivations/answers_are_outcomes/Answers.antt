use Rattle.meaning_derivation.proofs.Deriving.{answers_are_outcomes}
use Rattle.meaning_derivation.proofs.derivations.answers_are_outcomes.Goals as goal

pub returns : goal.returns
returns c = answers_are_outcomes
