-- The least of what the three say.
use Rattle.std.proofs.Common.{◌++◌, sym, ap, ap₂, ◌∙◌}
use Rattle.vocabulary.specs.declared.error_kind.ErrorKind.TheVariants.{CaseValueUsedTwice}
use Rattle.meaning_rules.specs.Rules.{lesser}
use Rattle.meaning_statements.specs.Statements.{again_at, constant_broken, label_placed}
use Rattle.expression_rows.specs.Facts.{valued_part}
use Rattle.expression_rows.specs.Rows.{row_seen}
use Rattle.expression_rows.proofs.LeastLemmas.{least_both}
use Rattle.statement_rows.proofs.RowLemmas.{told_says}
use Rattle.statement_rows.proofs.labels.judge_case.Goals as goal

pub returns-clause-row : goal.returns-clause-row
returns-clause-row c =
    let table = c.args.types.now in
    let at = c.args.at in
    let placed = label_placed at.token at.switch at.enters in
    let constant = constant_broken at.value (valued_part table c.args.label) in
    let again = again_at CaseValueUsedTwice at.value c.args.earliest in
    ap (row_seen table) c.breaks.ensures
    ∙ ap₂ told_says
    (c.lesser-2.ensures
    ∙ ap₂ lesser (c.lesser.ensures ∙ ap₂ lesser c.label_placed-placed.ensures c.constant_broken-constant.ensures ∙ sym (least_both placed constant))
    c.again_at-again.ensures
    ∙ sym (least_both (placed ++ constant) again))
    c.label_failures.ensures.failures
