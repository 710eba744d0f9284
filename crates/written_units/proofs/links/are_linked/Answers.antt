-- One node more is linked, and at the end all are.
use Rattle.std.proofs.Common.{◌≤◌, length, arith}
use Rattle.written_units.proofs.LinkingLemmas.{all-linked, none-linked, one-linked}
use Rattle.written_units.proofs.links.are_linked.Goals as goal

pub loop-handle-init : goal.loop-handle-init
loop-handle-init c = none-linked c.args.unit.now.nodes

pub loop-handle-preserved : goal.loop-handle-preserved
loop-handle-preserved c =
    one-linked c.args.unit.now.nodes c.loop-handle.handle c.loop-handle.invariant (c.is_linked.ensures c.if-not-is_linked.false)

pub returns : goal.returns
returns c = λ yes.
    let all : length c.args.unit.now.nodes ≤ c.loop-handle.handle = omega (arith, c.loop-handle-test.false, c.len-handle-end.ensures.value, c.requires) in
    all-linked c.args.unit.now.nodes c.loop-handle.handle all c.loop-handle.invariant
