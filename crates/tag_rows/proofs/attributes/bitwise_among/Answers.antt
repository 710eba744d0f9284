use Rattle.std.proofs.Common.{option_map, sym, ap, ◌∙◌}
use Rattle.meaning_rules.specs.Rules.{lesser}
use Rattle.expression_rows.specs.Rows.{broken_seen}
use Rattle.decl_judge.specs.Units.{handles_of, nodes_of}
use Rattle.tag_rows.specs.Attributes.{bitwise_over}
use Rattle.tag_rows.proofs.attributes.bitwise_among.Goals as goal

pub loop-attribute-preserved : goal.loop-attribute-preserved
loop-attribute-preserved c =
    let nodes = nodes_of c.args.unit.now in
    let found = option_map broken_seen c.loop-attribute.found in
    let rest = handles_of c.next.new.self in
    ap (λ least. bitwise_over nodes least rest) (c.lesser-found.ensures ∙ ap (lesser found) c.broken_by_word.ensures)
    ∙ ap (λ attributes. bitwise_over nodes found (handles_of attributes)) (sym c.in-Some.ensures.steps)
    ∙ c.loop-attribute.invariant
