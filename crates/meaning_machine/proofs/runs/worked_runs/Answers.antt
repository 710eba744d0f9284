-- Each example is played.
use Rattle.std.proofs.Common.{refl}
use Rattle.meaning_machine.proofs.Worked.{opened, meets, ends}
use Rattle.meaning_machine.proofs.runs.worked_runs.Goals as goal

pub returns-clause-space_lost : goal.returns-clause-space_lost
unfolding opened
returns-clause-space_lost c = meets _ refl refl refl refl refl

pub returns-clause-noderef_accessed : goal.returns-clause-noderef_accessed
unfolding opened
returns-clause-noderef_accessed c = meets _ refl refl refl refl refl

pub returns-clause-flagged_loaded : goal.returns-clause-flagged_loaded
unfolding opened
returns-clause-flagged_loaded c = meets _ refl refl refl refl refl

pub returns-clause-silent_leaves : goal.returns-clause-silent_leaves
unfolding opened
returns-clause-silent_leaves c = ends _ refl refl refl refl refl refl

pub returns-clause-silent_ends : goal.returns-clause-silent_ends
unfolding opened
returns-clause-silent_ends c = ends _ refl refl refl refl refl refl

pub returns-clause-silent_copies : goal.returns-clause-silent_copies
unfolding opened
returns-clause-silent_copies c = ends _ refl refl refl refl refl refl

pub returns-clause-null_undefined : goal.returns-clause-null_undefined
unfolding opened
returns-clause-null_undefined c = meets _ refl refl refl refl refl

pub returns-clause-foreign_undefined : goal.returns-clause-foreign_undefined
unfolding opened
returns-clause-foreign_undefined c = meets _ refl refl refl refl refl

pub returns-clause-const_copied : goal.returns-clause-const_copied
unfolding opened
returns-clause-const_copied c = ends _ refl refl refl refl refl refl
