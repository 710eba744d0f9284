use Rattle.meaning_typing.proofs.Surroundings.{surroundings_are_unique, surroundings_are_found}
use Rattle.meaning_typing.proofs.typing.each_unit_has_one_list_of_surroundings.Goals as goal

pub returns-clause-unique : goal.returns-clause-unique
returns-clause-unique c = surroundings_are_unique

pub returns-clause-found : goal.returns-clause-found
returns-clause-found c = surroundings_are_found
