-- In braces, or without them.
use Rattle.node_facts.specs.Facts.{nodes_seen}
use Rattle.init_judge.proofs.whole.plan_of.Goals as goal

pub returns-else-is_braced-clause-received : goal.returns-else-is_braced-clause-received
returns-else-is_braced-clause-received c = λ aggregates is_static known. c.plan_of_value.ensures.received aggregates (nodes_seen c.args.types.now c.args.facts.now) is_static
