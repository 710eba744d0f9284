use Rattle.meaning_paths.proofs.RuleLemmas.{balances}
use Rattle.meaning_paths.proofs.paths.balanced_paths_leave_as_they_should.Goals as goal

pub returns : goal.returns
returns g c = balances g.P.PathSet.is_path
