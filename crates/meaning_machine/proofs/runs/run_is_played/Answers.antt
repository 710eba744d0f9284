-- By what each move does.
use Rattle.meaning_machine.proofs.Replaying.{moves_are_played, run_is_played}
use Rattle.meaning_machine.proofs.runs.run_is_played.Goals as goal

pub returns-clause-moves : goal.returns-clause-moves
returns-clause-moves c = moves_are_played

pub returns-clause-run : goal.returns-clause-run
returns-clause-run c = run_is_played
