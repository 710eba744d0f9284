use Rattle.std.proofs.Common.{option_map, sym, ap, ◌∙◌}
use Rattle.meaning_rules.specs.Rules.{least_broken, lesser}
use Rattle.meaning_typing.specs.DeclarationRows as meaning
use Rattle.meaning_typing.specs.Facts.{fact_at}
use Rattle.meaning_typing.specs.Units.{node_at}
use Rattle.decl_judge.specs.Units.{handles_of, nodes_of}
use Rattle.expression_rows.specs.Rows.{broken_seen}
use Rattle.node_facts.specs.Facts.{nodes_seen}
use Rattle.declaration_rows.proofs.LeastLemmas.{least_more}
use Rattle.declaration_rows.proofs.sizes.sizes_broken.Goals as goal

pub loop-child-preserved : goal.loop-child-preserved
loop-child-preserved c =
    let nodes = nodes_of c.args.unit.now in
    let facts = nodes_seen c.args.types.now c.args.facts.now in
    let child = c.in-Some.child in
    let least = option_map broken_seen c.loop-child.least in
    let rest = meaning.sizes_broken nodes facts (handles_of c.next.new.self) in
    ap (λ least. lesser least (least_broken rest)) (c.lesser-least.ensures ∙ ap (lesser least) c.size_broken_at.ensures)
    ∙ least_more least (meaning.size_broken (node_at nodes child).token (fact_at facts child)) rest
    ∙ ap (λ children. lesser least (least_broken (meaning.sizes_broken nodes facts (handles_of children)))) (sym c.in-Some.ensures.steps)
    ∙ c.loop-child.invariant
