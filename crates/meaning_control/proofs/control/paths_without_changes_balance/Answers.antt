use Rattle.meaning_control.proofs.Changes.{balanced}
use Rattle.meaning_control.proofs.control.paths_without_changes_balance.Goals as goal

pub returns : goal.returns
returns g c = λ nothing key count. balanced g.P.PathSet.is_path nothing key count
