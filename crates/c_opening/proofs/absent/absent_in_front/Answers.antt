-- One item more is absent, and at the end all are.
use Rattle.std.proofs.Common.{◌≡◌, length, subst, take, arith}
use Rattle.c_opening.specs.Absent.{AreAbsent}
use Rattle.c_opening.proofs.Missing.{absent-more}
use Rattle.c_opening.proofs.absent.absent_in_front.Goals as goal

pub loop-count-preserved : goal.loop-count-preserved
loop-count-preserved c =
    λ second. absent-more c.args.next second c.args.items.now c.loop-count.count _ (c.loop-count.invariant second)
    (c.is_absent_item.ensures second c.if-not-is_absent_item.false) c.loop-count-test.true

pub returns-clause-absent : goal.returns-clause-absent
returns-clause-absent c =
    λ second.
    let all : c.loop-count.count ≡ length c.args.items.now = omega (arith, c.loop-count-test.false, c.loop-count.auto.count-end) in
    subst (λ n. AreAbsent c.args.next second (take n c.args.items.now)) all (c.loop-count.invariant second)
