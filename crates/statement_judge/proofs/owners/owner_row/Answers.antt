use Rattle.std.proofs.Common.{◌≡◌, ap, ◌∙◌}
use Rattle.meaning_statements.specs.Jumps.{gotos_before, labels_before}
use Rattle.meaning_statements.specs.StatementRows.{gotos_broken}
use Rattle.decl_judge.specs.Units.{nodes_of}
use Rattle.expression_rows.specs.Rows.{broken_row}
use Rattle.node_surroundings.specs.Seen.{surroundings_seen}
use Rattle.statement_judge.proofs.RowLemmas.{says_broken}
use Rattle.statement_judge.proofs.owners.owner_row.Goals as goal

pub returns : goal.returns
returns c =
    let nodes = nodes_of c.args.unit.now in
    let surroundings = surroundings_seen c.args.surroundings.now in
    let owner = c.args.owner in
    says_broken c.args.types.now c.breaks.result c.gotos_broken.result
    (gotos_broken owner (labels_before nodes surroundings owner) (gotos_before nodes surroundings owner))
    (c.breaks.ensures ∙ ap (broken_row c.gotos_broken.result) c.none.ensures) c.gotos_broken.ensures
