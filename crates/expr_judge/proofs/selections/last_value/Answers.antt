use Rattle.std.proofs.Common.{◌≡◌, ℕ, List, map, IfOk, option_map, ap, subst}
use Rattle.meaning_tree.specs.Nodes.{TreeNode}
use Rattle.expression_rows.specs.Parts.{returned_seen}
use Rattle.node_facts.specs.Facts.{nodes_seen}
use Rattle.expr_judge.specs.Operators.{value_in}
use Rattle.expr_judge.specs.Parts.{only_expression}
use Rattle.expr_judge.proofs.selections.last_value.Goals as goal

pub returns-in-Some-clause-seen : goal.returns-in-Some-clause-seen
returns-in-Some-clause-seen c =
    let facts = nodes_seen c.args.types.now c.args.facts.now in
    subst
    (λ (node : TreeNode (List ℕ)). IfOk c.value_of_statement.result (λ value. returned_seen c.value_of_statement.new.types value
    ≡ option_map only_expression (value_in node.kind facts (map (λ child. child.0) node.children))))
    c.in-Some.ensures c.value_of_statement.ensures.seen

pub returns-in-None-clause-seen : goal.returns-in-None-clause-seen
returns-in-None-clause-seen c =
    let facts = nodes_seen c.args.types.now c.args.facts.now in
    ap (λ node. option_map only_expression (value_in node.kind facts (map (λ child. child.0) node.children))) c.in-None.ensures
