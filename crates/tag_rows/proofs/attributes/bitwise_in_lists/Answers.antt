use Rattle.std.proofs.Common.{option_map, sym, ap, ◌∙◌}
use Rattle.meaning_typing.specs.Specifiers.{attributes_among, attributes_of}
use Rattle.meaning_typing.specs.Units.{children_at, kind_at}
use Rattle.expression_rows.specs.Rows.{broken_seen}
use Rattle.decl_judge.specs.Units.{handles_of, nodes_of}
use Rattle.tag_rows.specs.Attributes.{bitwise_over}
use Rattle.tag_rows.proofs.AttributeLemmas.{over_append}
use Rattle.tag_rows.proofs.attributes.bitwise_in_lists.Goals as goal

pub loop-child-preserved : goal.loop-child-preserved
loop-child-preserved c =
    let nodes = nodes_of c.args.unit.now in
    let child = c.in-Some.child in
    let found = option_map broken_seen c.loop-child.found in
    let rest = attributes_among nodes (handles_of c.next.new.self) in
    ap (λ least. bitwise_over nodes least rest) c.bitwise_in_list-found.ensures
    ∙ sym (over_append nodes found (attributes_of (kind_at nodes child) (children_at nodes child)) rest)
    ∙ ap (λ children. bitwise_over nodes found (attributes_among nodes (handles_of children))) (sym c.in-Some.ensures.steps)
    ∙ c.loop-child.invariant
