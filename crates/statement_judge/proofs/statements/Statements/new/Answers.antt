use Rattle.meaning_statements.specs.Above.{expressions_around}
use Rattle.decl_judge.specs.Units.{nodes_of}
use Rattle.node_surroundings.specs.Seen.{surroundings_seen}
use Rattle.statement_judge.proofs.StatementLemmas.{kept_none}
use Rattle.statement_judge.proofs.statements.Statements.new.Goals as goal

pub returns : goal.returns
returns c = λ facts.
    kept_none (nodes_of c.args.unit.now) (surroundings_seen c.args.surroundings.now) facts c.in_ok-new.field-0 c.new-2.result c.new-3.result c.new-4.result
    c.in_ok-new.ensures c.new-2.ensures c.new-3.ensures
    (c.new-4.ensures (expressions_around (nodes_of c.args.unit.now) (surroundings_seen c.args.surroundings.now)))
