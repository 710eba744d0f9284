use Rattle.initializer_levels.proofs.Walks.{walks_come_to_plans}
use Rattle.initializer_levels.proofs.laws.walks_come_to_plans.Goals as goal

pub returns : goal.returns
returns c = walks_come_to_plans
