use Rattle.meaning_contexts.proofs.FailureLemmas.{failures_are_unique, failures_exist}
use Rattle.meaning_contexts.proofs.contexts.each_unit_has_one_list_of_failures.Goals as goal

pub returns-clause-exist : goal.returns-clause-exist
returns-clause-exist c = failures_exist

pub returns-clause-unique : goal.returns-clause-unique
returns-clause-unique c = failures_are_unique
