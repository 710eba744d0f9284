-- What is known of the value and of the result is what the row asks.
use Rattle.std.proofs.Common.{◌≡◌, ℕ, List, option_map, sym, ap, ◌∙◌}
use Rattle.meaning_statements.specs.Statements.{whole_return_row}
use Rattle.meaning_typing.specs.Statements.{result_around}
use Rattle.meaning_typing.specs.Typing.{first_fact, part_token, token_at}
use Rattle.meaning_typing.specs.Units.{children_at}
use Rattle.meaning_tree.specs.Nodes.{TreeNode}
use Rattle.c_tree.specs.Seen.{node_of}
use Rattle.decl_judge.specs.Units.{handles_of, nodes_of}
use Rattle.expr_judge.specs.Parts.{only_expression}
use Rattle.expression_rows.specs.Parts.{returned_seen}
use Rattle.expression_rows.specs.Rows.{told}
use Rattle.node_facts.specs.Facts.{nodes_seen}
use Rattle.node_facts.proofs.GrowthLemmas.{nodes_known, nodes_later}
use Rattle.expr_judge.proofs.NodeLemmas.{node-is}
use Rattle.statement_judge.proofs.OnlyLemmas.{return_only}
use Rattle.statement_judge.proofs.conditions.return_statement.Goals as goal

pub result_around-answer-requires-clause-ids : goal.result_around-answer-requires-clause-ids
result_around-answer-requires-clause-ids c =
    nodes_known c.args.types.now c.returned_among.new.types c.in_ok-value.ensures.keeps c.args.facts.now c.requires.ids

pub returns : goal.returns
returns c =
    let nodes = nodes_of c.args.unit.now in
    let handle = c.args.handle in
    let old = c.args.types.now in
    let new = c.returned_among.new.types in
    let facts = nodes_seen old c.args.facts.now in
    let later = nodes_later old new c.in_ok-value.ensures.keeps c.args.facts.now c.requires.ids in
    let node = node-is c.args.unit.now c.requires.whole handle (node_of c.node.result.now) c.node.ensures in
    let value : returned_seen new c.in_ok-value.value ≡ option_map only_expression (first_fact facts (children_at nodes handle)) =
    c.in_ok-value.ensures.seen ∙ ap (λ (n : TreeNode (List ℕ)). option_map only_expression (first_fact facts (handles_of n.children))) (sym node) in
    let answer = c.result_around-answer.ensures.seen ∙ ap (λ all. result_around nodes all c.args.function) later in
    record {
      row =
          c.judge_return_statement.ensures.row
          ∙ (λ i. told (whole_return_row (c.token_at-token.ensures i) (c.part_token-standing.ensures i) (value i) (answer i)))
          ∙ ap told (return_only (token_at nodes handle) (part_token nodes handle 0) (first_fact facts (children_at nodes handle)) (result_around nodes facts c.args.function));
      known = c.judge_return_statement.ensures.known;
      keeps = c.in_ok-value.ensures.keeps;
    }
