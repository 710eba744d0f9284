use Rattle.std.proofs.Common.{◌+◌, max, ap, sym, ◌∙◌, arith}
use Rattle.meaning_typing.specs.MemberDeclarations.{alignment_among}
use Rattle.meaning_typing.specs.Specifiers.{attributes_among, attributes_of}
use Rattle.meaning_typing.specs.Units.{children_at, kind_at}
use Rattle.decl_judge.specs.Seen.{lists_from}
use Rattle.decl_judge.specs.Units.{nodes_of}
use Rattle.decl_judge.proofs.MarkLemmas.{from_capped, from_list, from_other}
use Rattle.body_members.proofs.AlignmentLemmas.{over_append, over_one}
use Rattle.body_members.proofs.behind.alignment_after.Goals as goal

pub loop-next-init : goal.loop-next-init
loop-next-init c =
    let nodes = nodes_of c.args.unit.now in
    over_one nodes (attributes_among nodes (lists_from nodes c.args.children.now c.saturating_add-next.result))
    ∙ ap (λ lists. alignment_among nodes (attributes_among nodes lists))
    (from_capped nodes c.args.children.now c.saturating_add-next.result (c.args.place + 1) (omega (arith, c.len-next-end.ensures.value, c.len-next-end.ensures.small))
    c.saturating_add-next.ensures)

pub returns-in-None : goal.returns-in-None
returns-in-None c =
    let nodes = nodes_of c.args.unit.now in
    c.max.ensures
    ∙ ap (λ lists. max c.loop-next.largest (alignment_among nodes (attributes_among nodes lists)))
    (sym (from_other nodes c.args.children.now c.loop-next.next c.get.result c.get.ensures.value (sym c.in-None.ensures.list)))
    ∙ c.loop-next.invariant

pub loop-next-preserved : goal.loop-next-preserved
loop-next-preserved c =
    let nodes = nodes_of c.args.unit.now in
    let children = c.args.children.now in
    let list = c.get.result.0 in
    let largest = c.loop-next.largest in
    let rest = attributes_among nodes (lists_from nodes children (c.loop-next.next + 1)) in
    ap (λ after. max after (alignment_among nodes rest))
    (c.alignment_among-largest.ensures ∙ ap (λ attributes. max largest (alignment_among nodes attributes)) c.in-Some.ensures.attributes)
    ∙ over_append nodes largest (attributes_of (kind_at nodes list) (children_at nodes list)) rest
    ∙ ap (λ lists. max largest (alignment_among nodes (attributes_among nodes lists)))
    (sym (from_list nodes children c.loop-next.next c.get.result c.get.ensures.value (sym c.in-Some.ensures.list)))
    ∙ c.loop-next.invariant
