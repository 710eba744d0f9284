use Rattle.meaning_contexts.proofs.WithoutContexts.{nothing_fails}
use Rattle.meaning_contexts.proofs.contexts.units_without_contexts_fail_nowhere.Goals as goal

pub returns : goal.returns
returns c = nothing_fails
