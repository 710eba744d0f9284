-- What is known of the part is what the row asks.
use Rattle.std.proofs.Common.{◌≡◌, ℕ, ap, ◌∙◌}
use Rattle.meaning_statements.specs.StatementRows.{is_braced}
use Rattle.meaning_statements.specs.Statements.{do_row}
use Rattle.meaning_typing.specs.Typing.{part_fact, part_token, token_at}
use Rattle.meaning_typing.specs.Units.{child_at, kind_at}
use Rattle.decl_judge.specs.Units.{nodes_of}
use Rattle.expr_judge.specs.Parts.{only_expression}
use Rattle.expression_rows.specs.Facts.{valued_part}
use Rattle.expression_rows.specs.Rows.{told}
use Rattle.node_facts.specs.Facts.{nodes_seen}
use Rattle.statement_judge.proofs.OnlyLemmas.{do_only}
use Rattle.statement_judge.proofs.conditions.do_statement.Goals as goal

pub returns : goal.returns
returns c =
    let nodes = nodes_of c.args.unit.now in
    let handle = c.args.handle in
    let place : ℕ = 1 in
    let fact = part_fact nodes (nodes_seen c.args.types.now c.args.facts.now) handle place in
    let braced = is_braced (kind_at nodes (child_at nodes handle 0)) in
    let braced_is : c.is_braced-braced.result ≡ braced = c.is_braced-braced.ensures ∙ ap is_braced (c.kind_at.ensures ∙ ap (kind_at nodes) c.child_at.ensures) in
    let operand : valued_part c.part_at.new.types c.in_ok-condition.condition ≡ only_expression fact = c.in_ok-condition.ensures.seen in
    record {
      row = c.judge_do.ensures.row ∙ (λ i. told (do_row (c.token_at-token.ensures i) (c.part_token-standing.ensures i) (braced_is i) (operand i))) ∙ ap told (do_only (token_at nodes handle) (part_token nodes handle place) braced fact);
      known = c.judge_do.ensures.known;
      keeps = c.in_ok-condition.ensures.keeps;
    }
