-- One more of the lists.
use Rattle.std.proofs.Common.{option_map, sym, ap, ◌∙◌}
use Rattle.meaning_typing.specs.Specifiers.{attributes_among}
use Rattle.meaning_typing.specs.Specifiers.{attributes_of}
use Rattle.meaning_typing.specs.Units.{children_at, kind_at}
use Rattle.decl_judge.specs.Units.{handles_of, nodes_of}
use Rattle.linked_names.specs.Contexts.{sums_of}
use Rattle.declared_contexts.specs.Sums.{sums_over}
use Rattle.declared_contexts.proofs.SumLemmas.{over_append}
use Rattle.declared_contexts.proofs.attributes.over_lists.Goals as goal

pub loop-child-preserved : goal.loop-child-preserved
loop-child-preserved c =
    let nodes = nodes_of c.args.unit.now in
    let before = option_map sums_of c.loop-child.after in
    let rest = attributes_among nodes (handles_of c.next.new.self) in
    ap (λ sums. sums_over nodes sums rest) c.in_ok-after.ensures
    ∙ sym (over_append nodes before (attributes_of (kind_at nodes c.in-Some.child) (children_at nodes c.in-Some.child)) rest)
    ∙ ap (λ children. sums_over nodes before (attributes_among nodes (handles_of children))) (sym c.in-Some.ensures.steps)
    ∙ c.loop-child.invariant
