use Rattle.meaning_initializers.proofs.Answering.{answers_are_outcomes}
use Rattle.meaning_initializers.proofs.Existence.{outcomes_exist}
use Rattle.meaning_initializers.proofs.Uniqueness.{outcomes_are_unique}
use Rattle.meaning_initializers.proofs.initializers.each_initializer_has_one_outcome.Goals as goal

pub returns-clause-unique : goal.returns-clause-unique
returns-clause-unique c = outcomes_are_unique

pub returns-clause-found : goal.returns-clause-found
returns-clause-found c = answers_are_outcomes

pub returns-clause-exist : goal.returns-clause-exist
returns-clause-exist c = outcomes_exist
