use Rattle.std.proofs.Common.{◌≡◌, option_map, true, false, ap, sym, ◌∙◌}
use Rattle.meaning_typing.specs.Tags.{is_tagged}
use Rattle.meaning_typing.specs.Units.{children_at, kind_at}
use Rattle.expression_rows.specs.Rows.{broken_seen}
use Rattle.decl_judge.specs.Units.{nodes_of}
use Rattle.tag_rows.specs.Attributes.{bitwise_over}
use Rattle.tag_rows.proofs.AttributeLemmas.{other_attributes, tagged_attributes}
use Rattle.tag_rows.proofs.attributes.bitwise_at.Goals as goal

pub returns-then-is_tagged : goal.returns-then-is_tagged
returns-then-is_tagged c =
    let nodes = nodes_of c.args.unit.now in
    let kind = kind_at nodes c.args.handle in
    let is : is_tagged kind ≡ true = sym (c.is_tagged.ensures ∙ ap is_tagged c.kind_at.ensures) ∙ c.if-is_tagged.true in
    c.bitwise_below.ensures ∙ ap (bitwise_over nodes (option_map broken_seen c.args.least)) (sym (tagged_attributes nodes kind (children_at nodes c.args.handle) is))

pub returns-else-is_tagged : goal.returns-else-is_tagged
returns-else-is_tagged c =
    let nodes = nodes_of c.args.unit.now in
    let kind = kind_at nodes c.args.handle in
    let is : is_tagged kind ≡ false = sym (c.is_tagged.ensures ∙ ap is_tagged c.kind_at.ensures) ∙ c.if-is_tagged.false in
    c.bitwise_in_list.ensures ∙ ap (bitwise_over nodes (option_map broken_seen c.args.least)) (sym (other_attributes nodes kind (children_at nodes c.args.handle) is))
