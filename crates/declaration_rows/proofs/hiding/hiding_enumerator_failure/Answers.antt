use Rattle.std.proofs.Common.{IfSome, not, sym, ap, subst, ◌∙◌}
use Rattle.meaning_typing.specs.DeclarationRows as meaning
use Rattle.expression_rows.specs.Rows.{IsKnownFailure, failure_listed}
use Rattle.declaration_rows.proofs.HidingLemmas.{hiding_known, hiding_listed}
use Rattle.declaration_rows.proofs.hiding.hiding_enumerator_failure.Goals as goal

pub returns-clause-listed : goal.returns-clause-listed
returns-clause-listed c =
    λ table.
    ap (failure_listed table) c.hiding_failure.ensures
    ∙ hiding_listed table c.token_at.result c.number_at.result c.name_at.result (not c.in_file.result)
    ∙ (λ i. meaning.hiding_failures (c.token_at.ensures i) (c.number_at.ensures i) (c.name_at.ensures i) (not (c.in_file.ensures i)))

pub returns-clause-known : goal.returns-clause-known
returns-clause-known c =
    λ table.
    subst (λ found. IfSome found (IsKnownFailure table)) (sym c.hiding_failure.ensures)
    (hiding_known table c.token_at.result c.number_at.result c.name_at.result (not c.in_file.result))
