-- One after the other.
use Rattle.std.proofs.Common.{◌≡◌, ◌-◌, None, Option, IfOk, option_map, ap, sym, ◌∙◌, subst}
use Rattle.meaning_typing.specs.ContextSums.{ContextSums}
use Rattle.meaning_typing.specs.Declarators.{leading_lists, lists_behind}
use Rattle.meaning_typing.specs.Specifiers.{attributes_among}
use Rattle.meaning_typing.specs.Tags.{attributes_of_specifiers}
use Rattle.meaning_typing.specs.Units.{child_at, children_at, kind_at}
use Rattle.decl_judge.specs.Units.{nodes_of}
use Rattle.linked_names.specs.Contexts.{sums_of}
use Rattle.declared_contexts.specs.Sums.{attributes_of_parts, sums_over}
use Rattle.declared_contexts.proofs.SumLemmas.{over_four}
use Rattle.declared_contexts.proofs.contexts.over_all.Goals as goal

pub returns : goal.returns
returns c =
    let nodes = nodes_of c.args.unit.now in
    let parent = c.args.parent in
    let first = attributes_of_specifiers nodes (children_at nodes (child_at nodes parent 0)) in
    let before = child_at nodes parent (c.args.place - 1) in
    let leading = attributes_among nodes (leading_lists (kind_at nodes before) (children_at nodes before)) in
    let parts = attributes_of_parts nodes (children_at nodes c.args.declarator) in
    let behind = attributes_among nodes (lists_behind nodes parent c.args.place) in
    let handle : c.child_at-before.result ≡ before = c.child_at-before.ensures ∙ ap (child_at nodes parent) c.saturating_sub.ensures in
    let one : option_map sums_of c.in_ok-specified.specified ≡ sums_over nodes None first =
    c.in_ok-specified.ensures ∙ ap (λ handle. sums_over nodes None (attributes_of_specifiers nodes (children_at nodes handle))) c.child_at.ensures in
    let two : option_map sums_of c.in_ok-leading.leading ≡ sums_over nodes (sums_over nodes None first) leading =
    c.in_ok-leading.ensures
    ∙ (λ i. sums_over nodes (one i) (attributes_among nodes (leading_lists (kind_at nodes (handle i)) (children_at nodes (handle i))))) in
    let three : option_map sums_of c.in_ok-within.within ≡ sums_over nodes (sums_over nodes (sums_over nodes None first) leading) parts =
    c.in_ok-within.ensures ∙ ap (λ sums. sums_over nodes sums parts) two in
    subst (λ (meant : Option ContextSums). IfOk c.over_lists_behind.result (λ sums. option_map sums_of sums ≡ meant))
    (ap (λ sums. sums_over nodes sums behind) three ∙ sym (over_four nodes None first leading parts behind))
    c.over_lists_behind.ensures
