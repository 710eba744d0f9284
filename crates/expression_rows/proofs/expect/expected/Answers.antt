-- Both conversions tell what is broken and what fails.
use Rattle.std.proofs.Common.{◌∙◌}
use Rattle.meaning_typing.specs.Expressions.{passed_as}
use Rattle.c_types.specs.Table.{type_at}
use Rattle.node_facts.specs.Facts.{value_of}
use Rattle.expression_rows.specs.Facts.{valued_part}
use Rattle.expression_rows.specs.Rows.{given_row, row_seen}
use Rattle.expression_rows.proofs.RowLemmas.{given_both}
use Rattle.expression_rows.proofs.expect.expected.Goals as goal

pub returns-clause-row : goal.returns-clause-row
returns-clause-row c =
    let table = c.args.types.now in
    let left = c.passed_as-left in
    let right = c.passed_as-right in
    let to = type_at table c.args.long in
    (λ i. row_seen table (c.gives.ensures i))
    ∙ (λ i. row_seen table (given_row (c.value.ensures i) c.lesser.result (record { first = left.result.failure; second = right.result.failure })))
    ∙ given_both table (value_of c.args.long) left.result right.result c.lesser.result
    (passed_as 1 c.args.first.token (valued_part table c.args.first.part) to) (passed_as 2 c.args.second.token (valued_part table c.args.second.part) to)
    left.ensures.converted right.ensures.converted c.lesser.ensures
