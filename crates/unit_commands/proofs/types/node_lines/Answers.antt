-- The line of one node more, and of all of them.
use Rattle.std.proofs.Common.{◌≡◌, ℕ, suc, ◌+◌, ◌<◌, length, subst, arith}
use Rattle.decl_judge.specs.Units.{nodes_of}
use Rattle.expr_judge.proofs.NodeLemmas.{end-nodes, token-is}
use Rattle.unit_commands.specs.Types.{AreLines, shown_of}
use Rattle.unit_commands.proofs.TypesLemmas.{lines_more}
use Rattle.unit_commands.proofs.types.node_lines.Goals as goal

pub loop-handle-init : goal.loop-handle-init
loop-handle-init c = λ surroundings are. c.new-text.ensures.items

pub loop-handle-preserved : goal.loop-handle-preserved
loop-handle-preserved c = λ surroundings are.
    let unit = c.args.unit.now in
    let nodes = nodes_of unit in
    let show = c.args.show.now in
    let handle = c.loop-handle.handle in
    let next : suc handle ≡ handle + 1 = omega arith in
    let within : handle < length c.args.answers.now =
    omega (arith, c.loop-handle-test.true, c.len-handle-end.ensures.value, end-nodes unit c.requires.whole, c.requires.all) in
    subst (λ (count : ℕ). AreLines nodes surroundings (shown_of show) count c.write_answer.new.text.items) next
    (lines_more show nodes surroundings c.args.answers.now are handle c.loop-handle.text.items c.write_answer.new.text.items c.token.result c.at.result
    (c.loop-handle.invariant surroundings are) within (token-is unit c.requires.whole handle c.token.result c.token.ensures) c.at.ensures
    c.in_ok-write_answer.ensures)

pub returns : goal.returns
returns c = λ surroundings are.
    let unit = c.args.unit.now in
    let all : c.loop-handle.handle ≡ length (nodes_of unit) =
    omega (arith, c.loop-handle-test.false, c.loop-handle.auto.handle-end, c.len-handle-end.ensures.value, end-nodes unit c.requires.whole) in
    subst (λ (count : ℕ). AreLines (nodes_of unit) surroundings (shown_of c.args.show.now) count c.loop-handle.text.items) all
    (c.loop-handle.invariant surroundings are)
