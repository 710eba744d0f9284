-- An expression.
use Rattle.std.proofs.Common.{[], false, ◌∙◌}
use Rattle.decl_judge.specs.Units.{nodes_of}
use Rattle.c_types.specs.Table.{type_at}
use Rattle.init_judge.proofs.WholeLemmas.{both_ok, value_received}
use Rattle.init_judge.proofs.whole.plan_of_value.Goals as goal

pub returns-clause-received : goal.returns-clause-received
returns-clause-received c = λ aggregates facts is_static.
    let table = c.args.types.now in
    let nodes = nodes_of c.args.unit.now in
    both_ok c.plan_met.result _ _ _ (c.plan_met.ensures.found facts is_static table) c.plan_met.ensures.length
    (λ plan found len.
    value_received c.initializers_are_of_parts.ensures aggregates is_static table nodes facts c.requires.order c.args.object c.args.init plan c.requires.value found
    (len ∙ c.length_of-length.ensures facts is_static (type_at table c.args.object) [] false c.parts_of-parts.ensures.parts))

pub returns-clause-known : goal.returns-clause-known
returns-clause-known c = c.plan_met.ensures.known c.args.types.now (c.requires.object, tt)
