use Rattle.c_preproc.proofs.KeptLemmas.{differ}
use Rattle.c_preproc.proofs.kept.Kept.keep_path.Goals as goal

pub returns-clause-others : goal.returns-clause-others
returns-clause-others c = λ other apart. c.in_ok-insert.ensures.updates.2 other (differ c.args.path other apart)
