-- List by list, as long as they stand one behind the other.
use Rattle.std.proofs.Common.{◌+◌, option_map, ap, sym, ◌∙◌, arith}
use Rattle.meaning_typing.specs.Specifiers.{attributes_among, attributes_of}
use Rattle.meaning_typing.specs.Units.{children_at, kind_at}
use Rattle.decl_judge.specs.Seen.{lists_from}
use Rattle.decl_judge.specs.Units.{nodes_of}
use Rattle.decl_judge.proofs.MarkLemmas.{from_capped, from_end, from_list, from_other}
use Rattle.linked_names.specs.Contexts.{sums_of}
use Rattle.declared_contexts.specs.Sums.{sums_over}
use Rattle.declared_contexts.proofs.SumLemmas.{over_append}
use Rattle.declared_contexts.proofs.attributes.over_lists_after.Goals as goal

pub loop-next-init : goal.loop-next-init
loop-next-init c =
    let nodes = nodes_of c.args.unit.now in
    ap (λ lists. sums_over nodes (option_map sums_of c.args.sums) (attributes_among nodes lists))
    (from_capped nodes c.args.children.now c.saturating_add-next.result (c.args.place + 1) (omega (arith, c.len-next-end.ensures.value, c.len-next-end.ensures.small))
    c.saturating_add-next.ensures)

pub returns-in-None : goal.returns-in-None
returns-in-None c =
    let nodes = nodes_of c.args.unit.now in
    ap (λ lists. sums_over nodes (option_map sums_of c.loop-next.after) (attributes_among nodes lists))
    (sym (from_other nodes c.args.children.now c.loop-next.next c.get.result c.get.ensures.value (sym c.in-None.ensures.list)))
    ∙ c.loop-next.invariant

pub loop-next-preserved : goal.loop-next-preserved
loop-next-preserved c =
    let nodes = nodes_of c.args.unit.now in
    let children = c.args.children.now in
    let after = option_map sums_of c.loop-next.after in
    let entry = c.get.result.0 in
    let rest = attributes_among nodes (lists_from nodes children (c.loop-next.next + 1)) in
    ap (λ sums. sums_over nodes sums rest) (c.in_ok-after-in-Some.ensures ∙ ap (sums_over nodes after) c.in-Some.ensures.attributes)
    ∙ sym (over_append nodes after (attributes_of (kind_at nodes entry) (children_at nodes entry)) rest)
    ∙ ap (λ lists. sums_over nodes after (attributes_among nodes lists)) (sym (from_list nodes children c.loop-next.next c.get.result c.get.ensures.value (sym c.in-Some.ensures.list)))
    ∙ c.loop-next.invariant

pub returns : goal.returns
returns c =
    let nodes = nodes_of c.args.unit.now in
    ap (λ lists. sums_over nodes (option_map sums_of c.loop-next.after) (attributes_among nodes lists))
    (sym (from_end nodes c.args.children.now c.loop-next.next (omega (arith, c.len-next-end.ensures.value, c.loop-next-test.false))))
    ∙ c.loop-next.invariant
