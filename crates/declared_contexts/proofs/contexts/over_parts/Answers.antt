-- One more of the parts.
use Rattle.std.proofs.Common.{option_map, sym, ap, ◌∙◌}
use Rattle.meaning_typing.specs.ContextSums.{part_attributes}
use Rattle.meaning_typing.specs.Units.{kind_at}
use Rattle.decl_judge.specs.Units.{handles_of, nodes_of}
use Rattle.linked_names.specs.Contexts.{sums_of}
use Rattle.declared_contexts.specs.Sums.{attributes_of_parts, sums_over}
use Rattle.declared_contexts.proofs.SumLemmas.{over_append}
use Rattle.declared_contexts.proofs.contexts.over_parts.Goals as goal

pub loop-part-preserved : goal.loop-part-preserved
loop-part-preserved c =
    let nodes = nodes_of c.args.unit.now in
    let before = option_map sums_of c.loop-part.after in
    let rest = attributes_of_parts nodes (handles_of c.next.new.self) in
    ap (λ sums. sums_over nodes sums rest) c.in_ok-after.ensures
    ∙ sym (over_append nodes before (part_attributes nodes (kind_at nodes c.in-Some.part) c.in-Some.part) rest)
    ∙ ap (λ children. sums_over nodes before (attributes_of_parts nodes (handles_of children))) (sym c.in-Some.ensures.steps)
    ∙ c.loop-part.invariant
