use Rattle.meaning_derivation.proofs.Sorting.{actions_are_sorted, actions_lead_on}
use Rattle.meaning_derivation.proofs.derivations.actions_leave_their_sorts.Goals as goal

pub returns-clause-sorted : goal.returns-clause-sorted
returns-clause-sorted c = actions_are_sorted

pub returns-clause-lead_on : goal.returns-clause-lead_on
returns-clause-lead_on c = actions_lead_on
