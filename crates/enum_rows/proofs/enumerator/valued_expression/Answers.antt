use Rattle.std.proofs.Common.{ap, ◌∙◌}
use Rattle.meaning_typing.specs.Facts.{type_of_value}
use Rattle.node_facts.specs.Facts.{fact_seen}
use Rattle.expression_rows.specs.Rows.{told}
use Rattle.enum_rows.specs.Values.{valued_row}
use Rattle.enum_rows.proofs.ValueLemmas.{valued_told}
use Rattle.enum_rows.proofs.enumerator.valued_expression.Goals as goal

pub returns-clause-row : goal.returns-clause-row
returns-clause-row c =
    let fact = fact_seen c.args.types.now c.args.expression in
    c.in_ok-row.ensures.row
    ∙ ap (λ value. told (valued_row c.args.token value)) c.value_of_expression-value.ensures
    ∙ ap told (valued_told c.args.token (type_of_value fact) fact.constant)
