use Rattle.meaning_tree.proofs.Lying.{run_is_laid}
use Rattle.meaning_tree.proofs.nodes.runs_are_laid.Goals as goal

pub returns : goal.returns
returns g c = run_is_laid
