use Rattle.meaning_contexts.proofs.FailureLemmas.{failures_are_of_one_class, untold_functions_balance}
use Rattle.meaning_contexts.proofs.contexts.untold_functions_balance.Goals as goal

pub returns-clause-balance : goal.returns-clause-balance
returns-clause-balance c = untold_functions_balance

pub returns-clause-class : goal.returns-clause-class
returns-clause-class c = failures_are_of_one_class
