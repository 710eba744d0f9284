-- The parts and the own cell of a node.
use Rattle.std.proofs.Common.{◌≡◌, ◌++◌, List, ℕ, ap, ap₂, ◌∙◌, length, map, arith}
use Rattle.std.proofs.lemmas.Result.{on_ok_weaker}
use Rattle.meaning_typing.specs.Units.{kind_at}
use Rattle.meaning_control.specs.Nodes.{arranged, passed_of}
use Rattle.decl_judge.specs.Units.{nodes_of}
use Rattle.linear_code.specs.Known.{judged_unit}
use Rattle.linear_code.specs.Tasks.{Visit, parts_in, tasks_seen}
use Rattle.linear_code.specs.declared.cells.Task.{Task as KeptTask}
use Rattle.linear_code.proofs.TaskLemmas.{parts_from, visited-node}
use Rattle.linear_code.proofs.cells.visit.Goals as goal

pub returns : goal.returns
returns g c =
    let known = g.J.ControlFacts.known c.args.facts.now in
    let judged = judged_unit c.args.unit.now known in
    let kind = c.kind_at-node_kind.result in
    let passed = c.push_passed.new.passed.items in
    let count : c.len.result ≡ length passed = omega (arith, c.len.ensures, c.as_slice.ensures.len, ap (λ (read : List ℕ). length read) c.as_slice.ensures.value) in
    on_ok_weaker c.push_parts.result
    (λ each.
    visited-node c.args.unit.now known c.requires.whole c.each_node_stands_for_one_tree.ensures.order c.args.handle c.args.is_tested
    kind passed c.args.kind c.token_at.result c.parts_in-parts.result (tasks_seen judged c.push_parts.new.tasks.items) c.args.tasks.now.items
    c.kind_at-node_kind.ensures
    (c.in_ok-push_passed.ensures ∙ ap (λ (front : List ℕ). front ++ passed_of judged c.args.handle (kind_at (nodes_of c.args.unit.now) c.args.handle)) c.clear.ensures.items)
    c.token_at.ensures
    (c.parts_in-parts.ensures ∙ ap (parts_in kind c.args.is_tested) count)
    (each judged
    ∙ ap₂ (λ (read : List ℕ) (old : List KeptTask). map Visit (arranged kind c.args.is_tested (parts_from judged kind c.args.is_tested 0 read)) ++ tasks_seen judged old)
    c.as_slice.ensures.value c.in_ok-push.ensures.items))
    c.push_parts.ensures
