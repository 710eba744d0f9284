use Rattle.meaning_types.proofs.Conversions.{usual-commutes, usual-at_least_int, usual-unsigned}
use Rattle.meaning_types.proofs.types.usual_conversions.Goals as goal

pub returns-clause-commute : goal.returns-clause-commute
returns-clause-commute c = usual-commutes

pub returns-clause-least : goal.returns-clause-least
returns-clause-least c = usual-at_least_int

pub returns-clause-unsigned : goal.returns-clause-unsigned
returns-clause-unsigned c = usual-unsigned
