-- What the initializer makes of the object, or the least of what it breaks.
use Rattle.std.proofs.Common.{◌≡◌, Err, IfErr, OnErr, Result, ap, subst, ◌∙◌}
use Rattle.meaning_initializers.specs.Reading.{aggregates_behind}
use Rattle.decl_judge.specs.Units.{nodes_of}
use Rattle.declaration_judge.specs.Kept.{facts_seen}
use Rattle.node_surroundings.specs.Seen.{surroundings_seen}
use Rattle.c_types.specs.Table.{type_at}
use Rattle.init_judge.specs.declared.fault.InitFault.{InitFault}
use Rattle.init_judge.specs.declared.fault.InitFault.TheVariants as faults
use Rattle.init_judge.specs.declared.judging.InitPlan.{InitPlan}
use Rattle.init_judge.specs.Judging.{IsRefusedFor}
use Rattle.initialized_judge.proofs.JudgingLemmas.{order_named, told_least}
use Rattle.initialized_judge.proofs.making.make.Goals as goal

pub judge_init-requires-clause-order : goal.judge_init-requires-clause-order
judge_init-requires-clause-order c = order_named c.args.unit.now c.requires.whole c.each_node_stands_for_one_tree.ensures.order

pub returns-in-Ok-clause-made : goal.returns-in-Ok-clause-made
returns-in-Ok-clause-made c =
    let aggregates = aggregates_behind (nodes_of c.args.unit.now) (surroundings_seen c.args._surroundings.now) (facts_seen c.args.kept.now) in
    let made = c.in-Ok.ensures.initialized aggregates c.requires.aggregates in
    (made.outcome, made.initializes, made.unrefused, made.complete, c.in-Ok.ensures.complete, made.failures)

pub returns-in-Err-Constraint-clause-made : goal.returns-in-Err-Constraint-clause-made
returns-in-Err-Constraint-clause-made c =
    let nodes = nodes_of c.args.unit.now in
    let known = facts_seen c.args.kept.now in
    let aggregates = aggregates_behind nodes (surroundings_seen c.args._surroundings.now) known in
    let object = type_at c.args.kept.now.types c.args.object in
    let is = c.in-Err-Constraint.is ∙ ap Err c.in-Err-Constraint.field-0-is in
    let refused : IsRefusedFor aggregates c.args.is_static nodes known object c.args.init (faults.Constraint c.in-Err-Constraint.broken) =
    subst (λ (result : Result InitPlan InitFault). IfErr result (IsRefusedFor aggregates c.args.is_static nodes known object c.args.init)) is
    (c.judge_init.ensures.refused aggregates c.requires.aggregates) in
    let kept : c.judge_init.new.found ≡ c.args.found.now =
    subst (λ (result : Result InitPlan InitFault). OnErr result (c.judge_init.new.found ≡ c.args.found.now)) is c.judge_init.ensures.as_before in
    (refused.0, refused.1, told_least refused.0.refusals ∙ refused.2, kept)
