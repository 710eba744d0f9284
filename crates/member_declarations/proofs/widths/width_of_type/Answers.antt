use Rattle.std.proofs.Common.{ap, ◌∙◌}
use Rattle.meaning_rules.specs.Rules.{least_broken}
use Rattle.c_types.specs.Table.{type_at}
use Rattle.node_facts.specs.Facts.{node_seen}
use Rattle.member_declarations.specs.Seen.{row_seen}
use Rattle.member_declarations.specs.Widths.{broken_in, failures_in}
use Rattle.member_declarations.proofs.WidthLemmas.{width_told}
use Rattle.member_declarations.proofs.widths.width_of_type.Goals as goal

pub returns-clause-row : goal.returns-clause-row
returns-clause-row c =
    let table = c.args.types.now in
    let size = node_seen table c.args.size in
    ap (row_seen table) c.unless.ensures
    ∙ width_told table (type_at table c.args.of) c.args.token c.args.is_named c.args.size c.broken_by_width-broken.result c.failure_of_width.result
    (c.broken_by_width-broken.ensures ∙ ap (λ outline. least_broken (broken_in outline c.args.token c.args.is_named size)) c.outline-outline.ensures)
    (c.failure_of_width.ensures ∙ ap (λ outline. failures_in outline c.args.token size) c.outline-outline.ensures)
