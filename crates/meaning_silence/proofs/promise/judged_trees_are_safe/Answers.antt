use Rattle.meaning_silence.proofs.Silence.{judged_trees_are_safe}
use Rattle.meaning_silence.proofs.promise.judged_trees_are_safe.Goals as goal

pub returns : goal.returns
returns c = judged_trees_are_safe
