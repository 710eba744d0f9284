use Rattle.std.proofs.Common.{option_map, sym, ap, ◌∙◌}
use Rattle.meaning_rules.specs.Rules.{least_broken, lesser}
use Rattle.meaning_typing.specs.Specifiers.{attributes_among, attributes_of}
use Rattle.meaning_typing.specs.Tags.{bitwise_words}
use Rattle.meaning_typing.specs.Units.{children_at, kind_at}
use Rattle.decl_judge.specs.Units.{handles_of, nodes_of}
use Rattle.expression_rows.specs.Rows.{broken_seen}
use Rattle.declaration_rows.proofs.BitwiseLemmas.{words_more}
use Rattle.declaration_rows.proofs.bitwise.words_of_lists.Goals as goal

pub loop-child-preserved : goal.loop-child-preserved
loop-child-preserved c =
    let nodes = nodes_of c.args.unit.now in
    let child = c.in-Some.child in
    let least = option_map broken_seen c.loop-child.least in
    let rest = attributes_among nodes (handles_of c.next.new.self) in
    ap (λ least. lesser least (least_broken (bitwise_words nodes rest))) c.words_of_list-least.ensures
    ∙ words_more nodes least (attributes_of (kind_at nodes child) (children_at nodes child)) rest
    ∙ ap (λ children. lesser least (least_broken (bitwise_words nodes (attributes_among nodes (handles_of children))))) (sym c.in-Some.ensures.steps)
    ∙ c.loop-child.invariant
