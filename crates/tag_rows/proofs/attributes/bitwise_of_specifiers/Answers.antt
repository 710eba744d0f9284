use Rattle.std.proofs.Common.{option_map, sym, ap, ◌∙◌}
use Rattle.meaning_rules.specs.Rules.{least_broken}
use Rattle.meaning_typing.specs.Tags.{attributes_of_specifiers, bitwise_words, tag_attributes}
use Rattle.meaning_typing.specs.Units.{children_at, kind_at}
use Rattle.expression_rows.specs.Rows.{broken_seen}
use Rattle.decl_judge.specs.Units.{handles_of, nodes_of}
use Rattle.tag_rows.specs.Attributes.{bitwise_over}
use Rattle.tag_rows.proofs.AttributeLemmas.{over_append, over_told}
use Rattle.tag_rows.proofs.attributes.bitwise_of_specifiers.Goals as goal

pub loop-child-init : goal.loop-child-init
loop-child-init c =
    let nodes = nodes_of c.args.unit.now in
    over_told nodes (attributes_of_specifiers nodes (handles_of c.into_iter-child-iterator.result))
    ∙ ap (λ children. least_broken (bitwise_words nodes (attributes_of_specifiers nodes (handles_of children))))
    (c.into_iter-child-iterator.ensures.into_iter_gives ∙ c.iter-child-items.ensures.pairs)

pub loop-child-preserved : goal.loop-child-preserved
loop-child-preserved c =
    let nodes = nodes_of c.args.unit.now in
    let child = c.in-Some.child in
    let found = option_map broken_seen c.loop-child.found in
    let rest = attributes_of_specifiers nodes (handles_of c.next.new.self) in
    ap (λ least. bitwise_over nodes least rest) c.bitwise_at-found.ensures
    ∙ sym (over_append nodes found (tag_attributes nodes (kind_at nodes child) (children_at nodes child)) rest)
    ∙ ap (λ children. bitwise_over nodes found (attributes_of_specifiers nodes (handles_of children))) (sym c.in-Some.ensures.steps)
    ∙ c.loop-child.invariant
