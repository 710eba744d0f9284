use Rattle.meaning_contexts.proofs.FailureLemmas.{failures_are_gathered}
use Rattle.meaning_contexts.proofs.contexts.paths_have_what_functions_have.Goals as goal

pub returns : goal.returns
returns c = failures_are_gathered
