-- What fails at the condition, and the body behind it.
use Rattle.std.proofs.Common.{◌++◌, ap, ap₂, ◌∙◌}
use Rattle.expression_rows.specs.Rows.{failure_listed, row_seen}
use Rattle.statement_rows.proofs.RowLemmas.{told_says, unbraced_told}
use Rattle.statement_rows.proofs.condition.do_of.Goals as goal

pub returns-clause-row : goal.returns-clause-row
returns-clause-row c =
    let table = c.args.types.now in
    ap (row_seen table) c.breaks.ensures
    ∙ ap₂ told_says c.condition_broken.ensures
    (ap₂ (λ one other. one ++ other) c.tested_failure.ensures.failure
    (ap (failure_listed table) c.unbraced.ensures ∙ unbraced_told table c.args.token c.args.braced))
