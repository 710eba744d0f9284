use Rattle.meaning_conditions.proofs.Answering.{fronts_go_on, longer_fronts_end}
use Rattle.meaning_conditions.proofs.conditions.fronts_go_on_up_to_the_bad_index.Goals as goal

pub returns-clause-shorter : goal.returns-clause-shorter
returns-clause-shorter c = fronts_go_on

pub returns-clause-longer : goal.returns-clause-longer
returns-clause-longer c = longer_fronts_end
