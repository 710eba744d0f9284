-- What stands above it, what is known of its parts, and what was read before.
use Rattle.std.proofs.Common.{◌≡◌, ap, ap₂, ◌∙◌}
use Rattle.meaning_statements.specs.Jumps.{switch_of}
use Rattle.meaning_statements.specs.StatementRows.{earliest_case, enters_label, number_at, switch_labels_before, switched_fact}
use Rattle.meaning_statements.specs.Statements.{case_row, number_of_label}
use Rattle.meaning_typing.specs.Typing.{part_fact, part_token, token_at}
use Rattle.decl_judge.specs.Units.{nodes_of}
use Rattle.expr_judge.specs.Parts.{only_expression}
use Rattle.expression_rows.specs.Rows.{told}
use Rattle.node_facts.specs.Facts.{nodes_seen}
use Rattle.node_surroundings.specs.Seen.{surroundings_seen}
use Rattle.statement_judge.specs.declared.enclosing.Enclosing.{Enclosing}
use Rattle.statement_judge.proofs.OnlyLemmas.{case_only, number_only}
use Rattle.statement_judge.proofs.labels.case_label.Goals as goal

pub returns : goal.returns
returns c =
    let nodes = nodes_of c.args.unit.now in
    let surroundings = surroundings_seen c.args.surroundings.now in
    let handle = c.args.handle in
    let facts = nodes_seen c.args.types.now c.args.facts.now in
    let read = switch_labels_before nodes surroundings facts handle in
    let stands : c.above-switch.result.switch ≡ switch_of nodes surroundings handle =
    ap (λ (above : Enclosing). above.switch) (c.above-switch.ensures nodes surroundings c.requires.nesting) in
    let switch = switch_of nodes surroundings handle in
    let label = c.in_ok-parts.ensures.label in
    let switched = c.in_ok-parts.ensures.switched ∙ ap (λ of. only_expression (switched_fact nodes facts of)) stands in
    let number : c.number_of_label-number.result ≡ number_at nodes surroundings facts handle =
    c.number_of_label-number.ensures ∙ ap₂ number_of_label switched label ∙ number_only (switched_fact nodes facts switch) (part_fact nodes facts handle 0) in
    let earliest = c.earliest_case-earliest.ensures read c.requires.labels ∙ (λ i. earliest_case (stands i) (number i) read) in
    let enters = c.enters_label.ensures ∙ ap (λ of. enters_label nodes surroundings of handle) stands in
    record {
      row =
          c.judge_case.ensures.row
          ∙ (λ i. told (case_row (c.token_at.ensures i) (c.part_token.ensures i) (stands i) (enters i) (label i) (switched i) (earliest i)))
          ∙ ap told
          (case_only (token_at nodes handle) (part_token nodes handle 0) switch (enters_label nodes surroundings switch handle) (part_fact nodes facts handle 0)
          (switched_fact nodes facts switch) (earliest_case switch (number_at nodes surroundings facts handle) read));
      known = c.judge_case.ensures.known;
      keeps = c.in_ok-parts.ensures.keeps;
    }
