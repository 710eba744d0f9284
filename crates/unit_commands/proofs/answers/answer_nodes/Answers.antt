-- One node more is answered and known, and at the end all are.
use Rattle.std.proofs.Common.{◌≡◌, ℕ, suc, ◌+◌, subst, sym, arith}
use Rattle.decl_judge.specs.Units.{nodes_of}
use Rattle.expr_judge.proofs.NodeLemmas.{end-nodes}
use Rattle.node_surroundings.specs.Seen.{surroundings_seen}
use Rattle.unit_commands.specs.Known.{IsFirstKnown}
use Rattle.unit_commands.proofs.AnswerLemmas.{AreAnswered, answered_more, answered_none}
use Rattle.unit_commands.proofs.answers.answer_nodes.Goals as goal

pub loop-handle-init : goal.loop-handle-init
loop-handle-init c =
    answered_none (nodes_of c.args.unit.now) (surroundings_seen c.args.surroundings.now) c.args.known.now c.new-answers.result c.requires.known c.new-answers.ensures

pub loop-handle-preserved : goal.loop-handle-preserved
loop-handle-preserved c =
    let nodes = nodes_of c.args.unit.now in
    let surroundings = surroundings_seen c.args.surroundings.now in
    let handle = c.loop-handle.handle in
    let next : suc handle ≡ handle + 1 = omega arith in
    let answer = c.in_ok-answer_node.field-0 in
    subst (λ (count : ℕ). AreAnswered nodes surroundings count c.know_node.new.known c.push.new.self) next
    (answered_more nodes surroundings handle c.loop-handle.known c.loop-handle.answers c.loop-handle.invariant c.answer_node.new.known c.know_node.new.known
    answer c.push.new.self c.in_ok-answer_node.ensures.keeps c.in_ok-answer_node.ensures.answer c.in_ok-push.ensures
    (subst (λ (count : ℕ). IsFirstKnown nodes surroundings count c.know_node.new.known) (sym next) c.in_ok-know_node.ensures.known)
    c.in_ok-know_node.ensures.types)

pub returns-clause-all : goal.returns-clause-all
returns-clause-all c =
    omega (
      arith,
      c.loop-handle.invariant.all,
      c.loop-handle-test.false,
      c.loop-handle.auto.handle-end,
      c.len-handle-end.ensures.value,
      end-nodes c.args.unit.now c.requires.whole,
    )

pub returns-clause-each : goal.returns-clause-each
returns-clause-each c = c.loop-handle.invariant.each

pub returns-clause-unnamed : goal.returns-clause-unnamed
returns-clause-unnamed c = c.loop-handle.invariant.is.unnamed
