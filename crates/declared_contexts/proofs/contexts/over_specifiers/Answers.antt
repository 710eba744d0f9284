-- One more of the specifiers.
use Rattle.std.proofs.Common.{option_map, sym, ap, ◌∙◌}
use Rattle.meaning_typing.specs.Tags.{attributes_of_specifiers}
use Rattle.meaning_typing.specs.Tags.{tag_attributes}
use Rattle.meaning_typing.specs.Units.{children_at, kind_at}
use Rattle.decl_judge.specs.Units.{handles_of, nodes_of}
use Rattle.linked_names.specs.Contexts.{sums_of}
use Rattle.declared_contexts.specs.Sums.{sums_over}
use Rattle.declared_contexts.proofs.SumLemmas.{over_append}
use Rattle.declared_contexts.proofs.contexts.over_specifiers.Goals as goal

pub loop-specifier-preserved : goal.loop-specifier-preserved
loop-specifier-preserved c =
    let nodes = nodes_of c.args.unit.now in
    let before = option_map sums_of c.loop-specifier.after in
    let rest = attributes_of_specifiers nodes (handles_of c.next.new.self) in
    ap (λ sums. sums_over nodes sums rest) c.in_ok-after.ensures
    ∙ sym (over_append nodes before (tag_attributes nodes (kind_at nodes c.in-Some.specifier) (children_at nodes c.in-Some.specifier)) rest)
    ∙ ap (λ children. sums_over nodes before (attributes_of_specifiers nodes (handles_of children))) (sym c.in-Some.ensures.steps)
    ∙ c.loop-specifier.invariant
