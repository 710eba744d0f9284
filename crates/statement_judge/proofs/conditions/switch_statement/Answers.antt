-- What is known of the part is what the row asks.
use Rattle.std.proofs.Common.{◌≡◌, ℕ, ap, ◌∙◌}
use Rattle.meaning_statements.specs.Statements.{switch_row}
use Rattle.meaning_typing.specs.Typing.{part_fact, part_token, token_at}
use Rattle.decl_judge.specs.Units.{nodes_of}
use Rattle.expr_judge.specs.Parts.{only_expression}
use Rattle.expression_rows.specs.Facts.{valued_part}
use Rattle.expression_rows.specs.Rows.{told}
use Rattle.node_facts.specs.Facts.{nodes_seen}
use Rattle.statement_judge.proofs.OnlyLemmas.{switch_only}
use Rattle.statement_judge.proofs.conditions.switch_statement.Goals as goal

pub returns : goal.returns
returns c =
    let nodes = nodes_of c.args.unit.now in
    let handle = c.args.handle in
    let place : ℕ = 0 in
    let fact = part_fact nodes (nodes_seen c.args.types.now c.args.facts.now) handle place in
    let operand : valued_part c.part_at.new.types c.in_ok-switched.switched ≡ only_expression fact = c.in_ok-switched.ensures.seen in
    record {
      row = c.judge_switch.ensures.row ∙ (λ i. told (switch_row (c.token_at-token.ensures i) (c.part_token-standing.ensures i) (operand i))) ∙ ap told (switch_only (token_at nodes handle) (part_token nodes handle place) fact);
      known = c.judge_switch.ensures.known;
      keeps = c.in_ok-switched.ensures.keeps;
    }
