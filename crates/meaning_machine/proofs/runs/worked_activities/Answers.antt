-- Each example is played.
use Rattle.std.proofs.Common.{refl}
use Rattle.meaning_machine.proofs.Worked.{opened, meets, ends}
use Rattle.meaning_machine.proofs.runs.worked_activities.Goals as goal

pub returns-clause-in_order : goal.returns-clause-in_order
unfolding opened
returns-clause-in_order c = ends _ refl refl refl refl refl refl

pub returns-clause-by_turns : goal.returns-clause-by_turns
unfolding opened
returns-clause-by_turns c = ends _ refl refl refl refl refl refl

pub returns-clause-third_meets : goal.returns-clause-third_meets
unfolding opened
returns-clause-third_meets c = meets _ refl refl refl refl refl

pub returns-clause-others_go_on : goal.returns-clause-others_go_on
unfolding opened
returns-clause-others_go_on c = meets _ refl refl refl refl refl
