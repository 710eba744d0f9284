-- By what each move does.
use Rattle.meaning_machine.proofs.Playing.{played_is_run}
use Rattle.meaning_machine.proofs.runs.played_is_run.Goals as goal

pub returns : goal.returns
returns c = played_is_run
