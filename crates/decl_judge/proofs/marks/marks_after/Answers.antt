use Rattle.std.proofs.Common.{◌+◌, ap, sym, ◌∙◌, arith}
use Rattle.meaning_typing.specs.Specifiers as meaning
use Rattle.decl_judge.specs.Seen.{lists_from, marks_over, marks_seen}
use Rattle.decl_judge.specs.Units.{nodes_of}
use Rattle.decl_judge.proofs.MarkLemmas.{from_capped, from_end, from_list, from_other, over_cons}
use Rattle.decl_judge.proofs.marks.marks_after.Goals as goal

pub loop-next-init : goal.loop-next-init
loop-next-init c =
    let nodes = nodes_of c.args.unit.now in
    ap (marks_over nodes (marks_seen c.args.marks))
    (from_capped nodes c.args.children.now c.saturating_add-next.result (c.args.place + 1) (omega (arith, c.len-next-end.ensures.value, c.len-next-end.ensures.small))
    c.saturating_add-next.ensures)

pub returns-in-None : goal.returns-in-None
returns-in-None c =
    let nodes = nodes_of c.args.unit.now in
    ap (marks_over nodes (marks_seen c.loop-next.after))
    (sym (from_other nodes c.args.children.now c.loop-next.next c.get.result c.get.ensures.value (sym c.in-None.ensures.list)))
    ∙ c.loop-next.invariant

pub loop-next-preserved : goal.loop-next-preserved
loop-next-preserved c =
    let nodes = nodes_of c.args.unit.now in
    let children = c.args.children.now in
    let after = marks_seen c.loop-next.after in
    let rest = lists_from nodes children (c.loop-next.next + 1) in
    ap (λ marks. marks_over nodes marks rest) (c.in_ok-after-in-Some.ensures ∙ ap (meaning.marks_behind nodes after) c.in-Some.ensures.attributes)
    ∙ sym (over_cons nodes after c.get.result.0 rest)
    ∙ ap (marks_over nodes after) (sym (from_list nodes children c.loop-next.next c.get.result c.get.ensures.value (sym c.in-Some.ensures.list)))
    ∙ c.loop-next.invariant

pub returns : goal.returns
returns c =
    let nodes = nodes_of c.args.unit.now in
    ap (marks_over nodes (marks_seen c.loop-next.after))
    (sym (from_end nodes c.args.children.now c.loop-next.next (omega (arith, c.len-next-end.ensures.value, c.loop-next-test.false))))
    ∙ c.loop-next.invariant
