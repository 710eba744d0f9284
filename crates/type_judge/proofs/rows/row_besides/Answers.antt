-- The row of the node, and then that of its statement.
use Rattle.std.proofs.Common.{List, subst, sym}
use Rattle.meaning_statements.specs.StatementRows.{statement_row_at}
use Rattle.meaning_typing.specs.Facts.{Fact}
use Rattle.meaning_typing.specs.WholeTyping.{whole_row_at}
use Rattle.decl_judge.specs.Units.{nodes_of}
use Rattle.expr_judge.specs.Rows.{Tells}
use Rattle.node_judge.specs.Known.{IsKnownOf, facts_seen, table_of}
use Rattle.node_surroundings.specs.Seen.{surroundings_seen}
use Rattle.statement_judge.specs.Statements.{IsKeptOf}
use Rattle.type_judge.proofs.FactLemmas.{known_itself}
use Rattle.type_judge.proofs.RowLemmas.{tells_both}
use Rattle.type_judge.proofs.rows.row_besides.Goals as goal

pub statement_row-requires-clause-known : goal.statement_row-requires-clause-known
statement_row-requires-clause-known c =
    known_itself (nodes_of c.args.unit.now) (surroundings_seen c.args.surroundings.now) c.args.handle c.judge_node.new.known c.in_ok-row.ensures.keeps

pub statement_row-requires-clause-kept : goal.statement_row-requires-clause-kept
statement_row-requires-clause-kept c =
    subst (λ (facts : List Fact). IsKeptOf (nodes_of c.args.unit.now) (surroundings_seen c.args.surroundings.now) facts c.args.handle c.args.statements.now)
    (sym c.in_ok-row.ensures.keeps.facts) c.requires.kept

pub returns-clause-says : goal.returns-clause-says
returns-clause-says c =
    let nodes = nodes_of c.args.unit.now in
    let surroundings = surroundings_seen c.args.surroundings.now in
    let handle = c.args.handle in
    let earlier = facts_seen c.args.known.now in
    let both = c.with_statement.ensures in
    tells_both (table_of c.args.known.now) (table_of c.judge_node.new.known) (table_of c.statement_row.new.known) c.args.found.now c.judge_node.new.found
    c.statement_row.new.found c.in_ok-row.row c.in_ok-statement.statement c.with_statement.result (whole_row_at nodes surroundings earlier handle)
    (statement_row_at nodes surroundings earlier handle) c.in_ok-row.ensures.says
    (subst
    (λ (facts : List Fact).
    Tells (table_of c.judge_node.new.known) (table_of c.statement_row.new.known) c.judge_node.new.found c.statement_row.new.found c.in_ok-statement.statement
    (statement_row_at nodes surroundings facts handle))
    c.in_ok-row.ensures.keeps.facts c.in_ok-statement.ensures.says)
    both.fact both.broken both.passed

pub returns-clause-keeps : goal.returns-clause-keeps
returns-clause-keeps c =
    subst
    (λ (facts : List Fact).
    IsKnownOf (nodes_of c.args.unit.now) (surroundings_seen c.args.surroundings.now) c.args.handle facts c.statement_row.new.known)
    c.in_ok-row.ensures.keeps.facts c.in_ok-statement.ensures.keeps
