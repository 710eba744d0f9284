use Rattle.std.proofs.Common.{◌≡◌, ℕ, ◌+◌, ◌||◌, true, List, [], ap, sym, ◌∙◌, if◌then◌else◌}
use Rattle.vocabulary.specs.declared.error_kind.ErrorKind.TheVariants.{TagRedeclared}
use Rattle.meaning_tree.specs.Nodes.{TreeNode}
use Rattle.meaning_typing.specs.Rows.{breaks_named}
use Rattle.meaning_typing.specs.Tags.{behind_lists, is_defined_again, is_other_kind, tag_token}
use Rattle.meaning_typing.specs.Units.{node_at}
use Rattle.c_tree.specs.Seen.{node_of}
use Rattle.decl_judge.specs.Units.{handles_of, named_node, nodes_of}
use Rattle.decl_judge.proofs.NodeLemmas.{named_at}
use Rattle.tag_rows.proofs.broken.tag_broken.Goals as goal

pub is_redeclared-requires-clause-node : goal.is_redeclared-requires-clause-node
is_redeclared-requires-clause-node c = named_at c.args.unit.now c.args.handle (node_of c.node-node.result.now) c.requires.whole c.node-node.ensures

pub returns-then-is_redeclared : goal.returns-then-is_redeclared
returns-then-is_redeclared c =
    let nodes = nodes_of c.args.unit.now in
    let handle = c.args.handle in
    let node = named_node (node_of c.node-node.result.now) in
    let is : true ≡ (is_other_kind nodes handle || is_defined_again nodes handle) = sym c.if-is_redeclared.true ∙ c.is_redeclared.ensures in
    ap (λ token. breaks_named TagRedeclared token node.name) c.in_ok-token.ensures
    ∙ ap (λ (node : TreeNode (List ℕ)). breaks_named TagRedeclared (behind_lists nodes (node.token + 1) (handles_of node.children)) node.name)
    (named_at c.args.unit.now handle (node_of c.node-node.result.now) c.requires.whole c.node-node.ensures)
    ∙ ap (λ is. if is then breaks_named TagRedeclared (tag_token nodes handle) (node_at nodes handle).name else []) is
