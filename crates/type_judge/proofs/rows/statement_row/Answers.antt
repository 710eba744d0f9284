-- The row of a statement over what is known: what is known stays.
use Rattle.decl_judge.specs.Units.{nodes_of}
use Rattle.node_judge.proofs.KnownLemmas.{known_count}
use Rattle.node_judge.proofs.RowLemmas.{keeps_types}
use Rattle.node_surroundings.specs.Seen.{surroundings_seen}
use Rattle.type_judge.proofs.rows.statement_row.Goals as goal

pub row_of_statement-requires-clause-ids : goal.row_of_statement-requires-clause-ids
row_of_statement-requires-clause-ids c = c.requires.known.kept.whole.ids

pub row_of_statement-requires-clause-next : goal.row_of_statement-requires-clause-next
row_of_statement-requires-clause-next c =
    known_count (nodes_of c.args.unit.now) (surroundings_seen c.args.surroundings.now) c.args.handle c.args.known.now c.requires.known

pub row_of_statement-requires-clause-kept : goal.row_of_statement-requires-clause-kept
row_of_statement-requires-clause-kept c = c.requires.kept

pub returns-clause-keeps : goal.returns-clause-keeps
returns-clause-keeps c =
    keeps_types (nodes_of c.args.unit.now) (surroundings_seen c.args.surroundings.now) c.args.handle c.args.known.now c.row_of_statement.new.types
    c.row_of_statement.result c.args.found.now c.row_of_statement.new.found _ c.requires.known c.row_of_statement.ensures
