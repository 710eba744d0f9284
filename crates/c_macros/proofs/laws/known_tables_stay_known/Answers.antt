use Rattle.c_macros.proofs.KnowsLemmas.{KnowsAll-Extends}
use Rattle.c_macros.proofs.laws.known_tables_stay_known.Goals as goal

pub returns : goal.returns
returns c = KnowsAll-Extends
