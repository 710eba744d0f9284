-- What stands above it, and what was read before.
use Rattle.std.proofs.Common.{◌≡◌, None, ap, ◌∙◌}
use Rattle.meaning_statements.specs.Jumps.{switch_of}
use Rattle.meaning_statements.specs.StatementRows.{earliest_in, enters_label, switch_labels_before}
use Rattle.meaning_statements.specs.Statements.{default_row}
use Rattle.decl_judge.specs.Units.{nodes_of}
use Rattle.expression_rows.specs.Rows.{told}
use Rattle.node_facts.proofs.GrowthLemmas.{joins_none}
use Rattle.node_surroundings.specs.Seen.{surroundings_seen}
use Rattle.statement_judge.specs.declared.enclosing.Enclosing.{Enclosing}
use Rattle.statement_judge.proofs.labels.default_label.Goals as goal

pub returns : goal.returns
returns c = λ facts labels.
    let nodes = nodes_of c.args.unit.now in
    let surroundings = surroundings_seen c.args.surroundings.now in
    let handle = c.args.handle in
    let table = c.args.types.now in
    let stands : c.above-switch.result.switch ≡ switch_of nodes surroundings handle =
    ap (λ (above : Enclosing). above.switch) (c.above-switch.ensures nodes surroundings c.requires.nesting) in
    let read = switch_labels_before nodes surroundings facts handle in
    let earliest = c.earliest_default-earliest.ensures read labels ∙ ap (λ of. earliest_in of None read) stands in
    let enters = c.enters_label-enters.ensures ∙ ap (λ of. enters_label nodes surroundings of handle) stands in
    record {
      row = c.judge_default.ensures.row table ∙ (λ i. told (default_row (c.token_at.ensures i) (stands i) (enters i) (earliest i)));
      known = c.judge_default.ensures.known table;
      keeps = joins_none table;
    }
