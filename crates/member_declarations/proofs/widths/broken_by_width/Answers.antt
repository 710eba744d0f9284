use Rattle.std.proofs.Common.{option_map, sym, ap, ◌∙◌}
use Rattle.vocabulary.specs.declared.error_kind.ErrorKind.TheVariants.{RestrictedBitField}
use Rattle.meaning_rules.specs.Rules.{least_broken, lesser}
use Rattle.meaning_typing.specs.MemberRows.{kind_width_broken}
use Rattle.meaning_typing.specs.Rows.{breaks_at}
use Rattle.node_facts.specs.Facts.{node_seen}
use Rattle.expression_rows.specs.Rows.{broken_seen}
use Rattle.expression_rows.proofs.LeastLemmas.{least_both}
use Rattle.member_declarations.specs.Widths.{broken_in}
use Rattle.member_declarations.proofs.widths.broken_by_width.Goals as goal

pub returns-in-Restricted : goal.returns-in-Restricted
returns-in-Restricted c =
    let size = node_seen c.args.types.now c.args.size in
    let token = c.args.token in
    let is_named = c.args.is_named in
    c.lesser.ensures
    ∙ (λ i. lesser (c.broken_by_kind-in-Restricted.ensures i) (option_map broken_seen (c.broken_at.ensures i)))
    ∙ sym (least_both (kind_width_broken token is_named c.in-Restricted.kind size) (breaks_at RestrictedBitField token))
    ∙ ap (λ outline. least_broken (broken_in outline token is_named size)) (sym c.in-Restricted.is)
