-- No node was seen, each is behind its own, and all were seen.
use Rattle.std.proofs.Common.{◌≡◌, length, arith}
use Rattle.decl_judge.specs.Units.{nodes_of}
use Rattle.expr_judge.proofs.NodeLemmas.{end-nodes}
use Rattle.type_judge.proofs.OrderLemmas.{all_behind, behind_more}
use Rattle.type_judge.proofs.order.switch_values_stand_before.Goals as goal

pub loop-handle-init : goal.loop-handle-init
loop-handle-init c = λ surroundings nesting handle within. absurd (omega (arith, within))

pub loop-handle-preserved : goal.loop-handle-preserved
loop-handle-preserved c = λ surroundings nesting.
    behind_more (nodes_of c.args.unit.now) surroundings c.loop-handle.handle (c.loop-handle.invariant surroundings nesting)
    (c.stands_behind_value.ensures surroundings nesting c.if-not-stands_behind_value.false)

pub returns : goal.returns
returns c = λ surroundings nesting is.
    let unit = c.args.unit.now in
    let all : length (nodes_of unit) ≡ c.loop-handle.handle =
    omega (arith, c.loop-handle-test.false, c.loop-handle.auto.handle-end, c.len-handle-end.ensures.value, end-nodes unit c.requires.whole) in
    all_behind (nodes_of unit) surroundings c.loop-handle.handle all (c.loop-handle.invariant surroundings nesting)
