use Rattle.std.proofs.Common.{◌≡◌, ℕ, Option, sym, subst}
use Rattle.meaning_statements.specs.StatementRows.{expression_row}
use Rattle.decl_judge.specs.Units.{nodes_of}
use Rattle.node_surroundings.specs.Seen.{surroundings_seen}
use Rattle.statement_judge.specs.Rows.{Says}
use Rattle.statement_judge.proofs.RowLemmas.{says_nothing}
use Rattle.statement_judge.proofs.rows.row_of_owner.Goals as goal

pub owner_row-requires-clause-nesting : goal.owner_row-requires-clause-nesting
owner_row-requires-clause-nesting c = c.requires.kept.1.nesting

pub owner_row-requires-clause-labels : goal.owner_row-requires-clause-labels
owner_row-requires-clause-labels c = c.requires.kept.1.labels

pub owner_row-requires-clause-gotos : goal.owner_row-requires-clause-gotos
owner_row-requires-clause-gotos c = c.requires.kept.1.gotos

pub returns-in-None : goal.returns-in-None
returns-in-None c =
    let types = c.args.types.now in
    subst (λ (owner : Option ℕ). Says types types c.owner_row.result
    (expression_row (nodes_of c.args.unit.now) (surroundings_seen c.args.surroundings.now) c.args.handle owner)) (sym c.in-None.is) c.owner_row.ensures

pub returns-in-Some : goal.returns-in-Some
returns-in-Some c =
    let types = c.args.types.now in
    subst (λ (owner : Option ℕ). Says types types c.nothing.result
    (expression_row (nodes_of c.args.unit.now) (surroundings_seen c.args.surroundings.now) c.args.handle owner)) (sym c.in-Some.is)
    (says_nothing types c.nothing.result c.nothing.ensures)
