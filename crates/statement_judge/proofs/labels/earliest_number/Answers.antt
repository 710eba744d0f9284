use Rattle.std.proofs.Common.{◌≡◌, ℕ, ℤ, Option, Some, sym, ap, ◌∙◌}
use Rattle.std.specs.Int.{w128}
use Rattle.std.proofs.lemmas.Int.{to_z-of_z}
use Rattle.meaning_statements.specs.StatementRows.{earliest_alike, earliest_in}
use Rattle.statement_judge.proofs.labels.earliest_number.Goals as goal

pub returns-in-Some : goal.returns-in-Some
returns-in-Some c = λ read stands.
    c.earliest_case.ensures read stands ∙ ap (λ (n : ℤ). earliest_alike c.in-Some.switch (Some n) read) (to_z-of_z w128 c.args.number c.ranges.number)
    ∙ ap (λ (of : Option ℕ). earliest_in of (Some c.args.number) read) (sym c.in-Some.is)
