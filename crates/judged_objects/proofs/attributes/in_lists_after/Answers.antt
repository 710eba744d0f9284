-- List by list, as long as they stand one behind the other.
use Rattle.std.proofs.Common.{◌+◌, ◌||◌, ap, sym, ◌∙◌, arith}
use Rattle.std.proofs.lemmas.List.Folds.{list_any-append}
use Rattle.meaning_typing.specs.Specifiers.{attributes_among, attributes_of}
use Rattle.meaning_typing.specs.Units.{children_at, kind_at}
use Rattle.meaning_objects.specs.Carried.{is_noreturn_attribute}
use Rattle.decl_judge.specs.Seen.{lists_from}
use Rattle.decl_judge.specs.Units.{nodes_of}
use Rattle.decl_judge.proofs.MarkLemmas.{from_capped, from_end, from_list, from_other}
use Rattle.judged_objects.specs.Noreturn.{has_noreturn}
use Rattle.judged_objects.proofs.NoteLemmas.{or-false, or-or-true}
use Rattle.judged_objects.proofs.attributes.in_lists_after.Goals as goal

pub loop-next-init : goal.loop-next-init
loop-next-init c =
    let nodes = nodes_of c.args.unit.now in
    ap (λ lists. has_noreturn nodes (attributes_among nodes lists))
    (from_capped nodes c.args.children.now c.saturating_add-next.result (c.args.place + 1) (omega (arith, c.len-next-end.ensures.value, c.len-next-end.ensures.small))
    c.saturating_add-next.ensures)

pub returns-in-None : goal.returns-in-None
returns-in-None c =
    let nodes = nodes_of c.args.unit.now in
    sym (or-false c.loop-next.found)
    ∙ ap (λ lists. c.loop-next.found || has_noreturn nodes (attributes_among nodes lists))
    (sym (from_other nodes c.args.children.now c.loop-next.next c.get.result c.get.ensures.value (sym c.in-None.ensures.list)))
    ∙ c.loop-next.invariant

pub loop-next-preserved : goal.loop-next-preserved
loop-next-preserved c =
    let nodes = nodes_of c.args.unit.now in
    let children = c.args.children.now in
    let entry = c.get.result.0 in
    let own = attributes_of (kind_at nodes entry) (children_at nodes entry) in
    let rest = attributes_among nodes (lists_from nodes children (c.loop-next.next + 1)) in
    ap (λ has. (c.loop-next.found || has) || has_noreturn nodes rest) (c.among_attributes-found.ensures ∙ ap (has_noreturn nodes) c.in-Some.ensures.attributes)
    ∙ or-or-true c.loop-next.found (has_noreturn nodes own) (has_noreturn nodes rest)
    ∙ ap (λ has. c.loop-next.found || has) (sym (list_any-append (λ handle. is_noreturn_attribute (kind_at nodes handle)) own rest))
    ∙ ap (λ lists. c.loop-next.found || has_noreturn nodes (attributes_among nodes lists))
    (sym (from_list nodes children c.loop-next.next c.get.result c.get.ensures.value (sym c.in-Some.ensures.list)))
    ∙ c.loop-next.invariant

pub returns : goal.returns
returns c =
    let nodes = nodes_of c.args.unit.now in
    sym (or-false c.loop-next.found)
    ∙ ap (λ lists. c.loop-next.found || has_noreturn nodes (attributes_among nodes lists))
    (sym (from_end nodes c.args.children.now c.loop-next.next (omega (arith, c.len-next-end.ensures.value, c.loop-next-test.false))))
    ∙ c.loop-next.invariant
