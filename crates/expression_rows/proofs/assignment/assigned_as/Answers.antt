-- The conversion tells what is broken and what fails.
use Rattle.std.proofs.Common.{◌∙◌}
use Rattle.meaning_typing.specs.Rows.{converted}
use Rattle.c_types.specs.Table.{type_at}
use Rattle.node_facts.specs.Facts.{value_of}
use Rattle.expression_rows.specs.Facts.{valued_seen}
use Rattle.expression_rows.specs.Rows.{given_row, row_seen}
use Rattle.expression_rows.proofs.RowLemmas.{given_converted}
use Rattle.expression_rows.proofs.assignment.assigned_as.Goals as goal

pub returns-clause-row : goal.returns-clause-row
returns-clause-row c =
    let table = c.args.types.now in
    let conversion = c.convert_part-conversion in
    (λ i. row_seen table (c.gives.ensures i))
    ∙ (λ i. row_seen table (given_row (c.value.ensures i) conversion.result.broken (c.only.ensures i)))
    ∙ given_converted table (value_of c.args.stored) conversion.result
    (converted c.args.at.token c.args.at.part c.args.at.value (valued_seen table c.args.right) (type_at table c.args.left.node.of)) conversion.ensures.converted
