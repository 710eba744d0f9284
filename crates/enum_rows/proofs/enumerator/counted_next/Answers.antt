use Rattle.std.proofs.Common.{ap, ◌∙◌}
use Rattle.meaning_typing.specs.EnumRows.{next_row}
use Rattle.enum_rows.specs.Values.{counted_row}
use Rattle.enum_rows.proofs.ValueLemmas.{next_told}
use Rattle.enum_rows.proofs.enumerator.counted_next.Goals as goal

pub returns-clause-row : goal.returns-clause-row
returns-clause-row c = ap counted_row c.next_if.ensures.next ∙ next_told c.value_in.result ∙ ap next_row c.value_in.ensures
