use Rattle.std.proofs.Common.{◌≡◌, ◌&&◌, true, length, ap, sym, ◌∙◌}
use Rattle.meaning_typing.specs.Tags.{has_body, is_any_below, is_earlier_body}
use Rattle.decl_judge.specs.Units.{nodes_of}
use Rattle.tag_rows.specs.Kept.{is_before, least_body}
use Rattle.tag_rows.proofs.KeptLemmas.{earlier_told}
use Rattle.tag_rows.proofs.broken.is_defined_again.Goals as goal

pub returns-then-has_body : goal.returns-then-has_body
returns-then-has_body c =
    let nodes = nodes_of c.args.unit.now in
    let handle = c.args.handle in
    let node = c.args.node.now in
    let count = length nodes in
    let has : true ≡ has_body nodes handle = sym c.if-has_body.true ∙ c.has_body.ensures in
    c.has_body_before.ensures
    ∙ ap (λ least. is_before least node.token) (c.requires.tags.bodies node.number)
    ∙ ap (λ node. is_before (least_body nodes node.number count) node.token) c.requires.node
    ∙ sym (earlier_told nodes handle count)
    ∙ ap (λ has. has && is_any_below (λ other. is_earlier_body nodes handle other) count) has
