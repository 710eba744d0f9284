use Rattle.std.proofs.Common.{◌≡◌, ◌-◌, ap, ◌∙◌}
use Rattle.meaning_rules.specs.Rules.{least_broken, lesser}
use Rattle.meaning_typing.specs.Declarators.{leading_lists, lists_before, lists_behind}
use Rattle.meaning_typing.specs.Specifiers.{attributes_among}
use Rattle.meaning_typing.specs.Tags.{bitwise_words}
use Rattle.meaning_typing.specs.Units.{child_at, children_at, kind_at}
use Rattle.decl_judge.specs.Units.{nodes_of}
use Rattle.declaration_rows.proofs.BitwiseLemmas.{words_around}
use Rattle.declaration_rows.proofs.bitwise.own_words.Goals as goal

pub returns : goal.returns
returns c =
    let nodes = nodes_of c.args.unit.now in
    let parent = c.args.parent in
    let place = c.args.place in
    let behind = lists_behind nodes parent place in
    let before : c.child_at-before.result ≡ child_at nodes parent (place - 1) =
    c.child_at-before.ensures ∙ ap (child_at nodes parent) c.saturating_sub.ensures in
    c.words_behind.ensures
    ∙ ap (λ least. lesser least (least_broken (bitwise_words nodes (attributes_among nodes behind))))
    (c.leading_words.ensures
    ∙ ap (λ handle. least_broken (bitwise_words nodes (attributes_among nodes (leading_lists (kind_at nodes handle) (children_at nodes handle))))) before)
    ∙ words_around nodes (lists_before nodes parent place) behind
