use Rattle.meaning_reached.proofs.LoopExample.{differs_at_loop}
use Rattle.meaning_reached.proofs.reached.worked_examples.Goals as goal

pub returns : goal.returns
returns c = differs_at_loop
