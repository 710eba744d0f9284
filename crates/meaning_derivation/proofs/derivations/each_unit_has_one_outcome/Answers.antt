use Rattle.meaning_derivation.proofs.Existence.{units_have_an_outcome}
use Rattle.meaning_derivation.proofs.Uniqueness.{items_have_one_outcome, units_have_one_outcome}
use Rattle.meaning_derivation.proofs.derivations.each_unit_has_one_outcome.Goals as goal

pub returns-clause-items : goal.returns-clause-items
returns-clause-items c = items_have_one_outcome

pub returns-clause-units : goal.returns-clause-units
returns-clause-units c = units_have_one_outcome

pub returns-clause-exist : goal.returns-clause-exist
returns-clause-exist c = units_have_an_outcome
