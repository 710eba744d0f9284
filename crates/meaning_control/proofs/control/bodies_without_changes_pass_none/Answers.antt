use Rattle.meaning_control.proofs.Unchanged.{path_unchanged}
use Rattle.meaning_control.proofs.control.bodies_without_changes_pass_none.Goals as goal

pub returns : goal.returns
returns c = path_unchanged
