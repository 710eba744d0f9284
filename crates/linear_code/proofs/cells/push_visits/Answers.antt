-- Part by part, from the last to the first.
use Rattle.std.proofs.Common.{◌++◌, ap, sym, ◌∙◌, length, map, arith}
use Rattle.std.proofs.Math.Seq.{drop-length}
use Rattle.linear_code.specs.Tasks.{Visit, tasks_seen}
use Rattle.linear_code.proofs.TaskLemmas.{parts_from, visited}
use Rattle.linear_code.proofs.cells.push_visits.Goals as goal

pub loop-place-init : goal.loop-place-init
loop-place-init c =
    λ unit.
    ap (λ left. map Visit (parts_from unit c.args.kind c.args.is_tested (length c.args.passed.now) left) ++ tasks_seen unit c.args.tasks.now.items)
    (sym (drop-length c.args.passed.now))

pub loop-place-preserved : goal.loop-place-preserved
loop-place-preserved c =
    λ unit.
    ap (tasks_seen unit) c.in_ok-push.ensures.items
    ∙ visited unit c.args.kind c.args.is_tested c.args.passed.now c.loop-place.place c.is_condition-part_is_tested.result
    c.loop-place.tasks.items c.args.tasks.now.items (omega (arith, c.loop-place-test.true)) (omega (arith, c.loop-place.auto.place))
    c.is_condition-part_is_tested.ensures (c.loop-place.invariant unit)
