use Rattle.std.proofs.Common.{◌≡◌, ◌+◌, true, false, ap, sym, ◌∙◌}
use Rattle.meaning_typing.specs.Units.{kind_at}
use Rattle.decl_judge.specs.Seen.{is_list, lists_from, marks_over, marks_seen}
use Rattle.decl_judge.specs.Units.{nodes_of}
use Rattle.decl_judge.proofs.MarkLemmas.{from_list, from_other, over_cons}
use Rattle.member_declarations.proofs.fact.marks_from.Goals as goal

pub returns-then-not-is_list : goal.returns-then-not-is_list
returns-then-not-is_list c =
    let nodes = nodes_of c.args.unit.now in
    let list = c.get-list.result in
    let is : is_list (kind_at nodes list.0) ≡ false = sym (c.is_list.ensures ∙ ap is_list c.kind_at.ensures) ∙ c.if-not-is_list.true in
    ap (marks_over nodes (marks_seen c.loop-next.marks)) (sym (from_other nodes c.args.children.now c.loop-next.next list c.get-list.ensures.value is))
    ∙ c.loop-next.invariant

pub loop-next-preserved : goal.loop-next-preserved
loop-next-preserved c =
    let nodes = nodes_of c.args.unit.now in
    let children = c.args.children.now in
    let list = c.get-list.result in
    let next = c.loop-next.next in
    let after = marks_seen c.loop-next.marks in
    let rest = lists_from nodes children (next + 1) in
    let is : is_list (kind_at nodes list.0) ≡ true = sym (c.is_list.ensures ∙ ap is_list c.kind_at.ensures) ∙ c.if-not-is_list.false in
    ap (λ marks. marks_over nodes marks rest) c.in_ok-marks.ensures
    ∙ sym (over_cons nodes after list.0 rest)
    ∙ ap (marks_over nodes after) (sym (from_list nodes children next list c.get-list.ensures.value is))
    ∙ c.loop-next.invariant
