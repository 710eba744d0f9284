use Rattle.std.proofs.Common.{◌≡◌, not, option_map, ap, ◌∙◌}
use Rattle.meaning_typing.specs.Tags.{are_one_kind, kind_at_token, tag_kind}
use Rattle.tag_rows.specs.Seen.{kind_seen}
use Rattle.tag_rows.proofs.KeptLemmas.{kind_told}
use Rattle.tag_rows.proofs.broken.is_other_kind.Goals as goal

pub returns : goal.returns
returns c = λ nodes handle stands is.
    let number = c.args.node.now.number in
    let named : option_map kind_seen c.kind.result ≡ kind_at_token number nodes =
    ap (option_map kind_seen) c.kind.ensures ∙ stands.kinds number ∙ kind_told nodes number in
    ap not
    (c.are_one_kind.ensures
    ∙ (λ i. are_one_kind (named i) (c.tag_kind.ensures i))
    ∙ ap (λ node. are_one_kind (kind_at_token node.number nodes) (tag_kind node.kind)) is)
