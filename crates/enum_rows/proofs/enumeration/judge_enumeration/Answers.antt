-- What is kept tells the row of each list for which it stands.
use Rattle.std.proofs.Common.{ap, ◌∙◌}
use Rattle.expression_rows.specs.Rows.{told}
use Rattle.enum_rows.proofs.KeptLemmas.{row_told}
use Rattle.enum_rows.proofs.enumeration.judge_enumeration.Goals as goal

pub returns-clause-row : goal.returns-clause-row
returns-clause-row c = λ list stands. c.in_ok-row.ensures.row ∙ ap told (row_told c.args.token c.args.enumerators list stands)
