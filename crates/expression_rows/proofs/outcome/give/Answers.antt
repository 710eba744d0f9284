-- What fails is told over the table that the type joined as over the one before.
use Rattle.std.proofs.Common.{[], None, ◌∙◌}
use Rattle.meaning_typing.specs.Facts.{Expression, value}
use Rattle.node_facts.specs.Facts.{addressed_seen}
use Rattle.expression_rows.specs.Rows.{given_row, row_seen}
use Rattle.expression_rows.proofs.OutcomeLemmas.{failures_later}
use Rattle.expression_rows.proofs.outcome.give.Goals as goal

pub returns-clause-row : goal.returns-clause-row
returns-clause-row c =
    let old = c.args.types.now in
    let new = c.make_given.new.types in
    let given = c.args.given in
    let failures = c.args.failures in
    (λ i. row_seen new (c.gives.ensures i))
    ∙ (λ i. row_seen new (given_row (c.fact_of.ensures i) None failures))
    ∙ (λ i. record {
      fact = Expression (record (value (c.in_ok-of.ensures.made i)) { is_fouled = given.fouled; is_null = given.is_null; address = addressed_seen given.address });
      broken = None;
      failures = failures_later old new c.in_ok-of.ensures.keeps failures c.requires.first c.requires.second i;
      passed = [];
    })
