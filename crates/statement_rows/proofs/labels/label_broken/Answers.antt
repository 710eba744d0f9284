-- The least of what a label breaks as a value and as a constant.
use Rattle.std.proofs.Common.{sym, ap, ap₂, ◌∙◌}
use Rattle.meaning_rules.specs.Rules.{least_broken, lesser}
use Rattle.expression_rows.specs.Facts.{valued_seen}
use Rattle.statement_rows.specs.Rows.{not_constant}
use Rattle.statement_rows.proofs.RowLemmas.{label_told}
use Rattle.statement_rows.proofs.labels.label_broken.Goals as goal

pub returns : goal.returns
returns c =
    let value = c.args.value in
    c.lesser.ensures
    ∙ ap₂ lesser c.void_used.ensures (c.not_constant.ensures ∙ ap (λ number. least_broken (not_constant value number)) c.constant_of.ensures)
    ∙ sym (label_told value (valued_seen c.args.types.now c.args.label))
