use Rattle.std.proofs.Common.{◌≡◌, ℕ, Bool, List, option_map, ap, ◌∙◌}
use Rattle.std.proofs.lemmas.Result.{IfOk-weaker}
use Rattle.meaning_operands.specs.Failures as failures
use Rattle.meaning_tree.specs.Nodes.{TreeNode}
use Rattle.meaning_typing.specs.MemberDeclarations.{bodies_at}
use Rattle.meaning_typing.specs.MemberRows as meaning
use Rattle.meaning_typing.specs.Tags.{tag_broken}
use Rattle.meaning_typing.specs.Units.{kind_at, node_at}
use Rattle.c_tree.specs.Seen.{node_of}
use Rattle.expression_rows.specs.Rows.{told}
use Rattle.body_members.specs.Seen.{bodies_if, body_seen}
use Rattle.decl_judge.specs.Units.{named_node, nodes_of}
use Rattle.decl_judge.proofs.NodeLemmas.{named_at}
use Rattle.aggregate_rows.specs.Seen.{row_seen, row_told}
use Rattle.aggregate_rows.proofs.RowLemmas.{row_is}
use Rattle.aggregate_rows.proofs.specifier.judge_aggregate_specifier.Goals as goal

pub returns-clause-says : goal.returns-clause-says
returns-clause-says c =
    let nodes = nodes_of c.args.unit.now in
    let handle = c.args.handle in
    let is_union = c.args.is_union in
    let node = named_node (node_of c.node-node.result.now) in
    let here : node ≡ node_at nodes handle =
    named_at c.args.unit.now handle (node_of c.node-node.result.now) c.requires.whole c.node-node.ensures in
    let too_large = c.in_ok-is_too_large.is_too_large in
    IfOk-weaker c.row_by.result (λ row. row_seen c.row_by.new.types row ≡ row_told node.number is_union c.in_ok-broken.broken c.passed_at-passed.result) _
    (λ row says surroundings known bodies layouts.
    says
    ∙ row_is node.token node.number is_union too_large c.in_ok-broken.broken c.passed_at-passed.result c.passed_at-passed.ensures
    ∙ ap (λ (broken : List failures.Broken). told (meaning.aggregate_row node.token node.number is_union too_large broken)) c.in_ok-broken.ensures
    ∙ ap (λ (test : Bool). told (meaning.aggregate_row node.token node.number is_union test (tag_broken nodes handle)))
    (c.in_ok-is_too_large.ensures (node_at nodes handle).number
    ∙ ap (λ told. meaning.is_too_large_body told is_union
    (bodies_if (node_at nodes handle).number (option_map (λ body. body_seen c.args.types.now body.now) c.args.body))) layouts
    ∙ ap (meaning.is_too_large_body (meaning.aggregates_before nodes surroundings known).told is_union) bodies)
    ∙ ap (λ (one : TreeNode (List ℕ)). told (meaning.aggregate_row one.token one.number is_union
    (meaning.is_too_large_body (meaning.aggregates_before nodes surroundings known).told is_union
    (bodies_at nodes surroundings known handle (kind_at nodes handle))) (tag_broken nodes handle))) here)
    c.row_by.ensures.says
