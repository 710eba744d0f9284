-- The row is taken over.
use Rattle.std.proofs.Common.{◌≡◌, ap, ◌∙◌}
use Rattle.meaning_statements.specs.StatementRows.{statement_row_at, statement_row_of}
use Rattle.decl_judge.specs.Units.{nodes_of}
use Rattle.expr_judge.proofs.TakenLemmas.{row_taken}
use Rattle.expression_rows.specs.Rows.{told}
use Rattle.node_facts.specs.Facts.{nodes_seen}
use Rattle.node_surroundings.specs.Seen.{surroundings_seen}
use Rattle.statement_judge.proofs.rows.row_of_statement.Goals as goal

pub returns : goal.returns
returns c =
    let nodes = nodes_of c.args.unit.now in
    let surroundings = surroundings_seen c.args.surroundings.now in
    let facts = nodes_seen c.args.types.now c.args.facts.now in
    let says = c.in_ok-row.ensures in
    row_taken c.args.types.now c.row_of.new.types says.keeps c.args.found.now c.take_row.new.found c.in_ok-row.row
    (statement_row_at nodes surroundings facts c.args.handle) says.known c.take_row.result c.take_row.ensures.row c.take_row.ensures.failures
    (says.row ∙ ap (λ kind. told (statement_row_of nodes surroundings facts c.args.handle kind)) c.kind_at-kind.ensures)
