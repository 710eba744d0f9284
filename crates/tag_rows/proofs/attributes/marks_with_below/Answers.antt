use Rattle.std.proofs.Common.{◌≡◌, ℕ, List, IfOk, subst}
use Rattle.meaning_tree.specs.Nodes.{TreeNode}
use Rattle.decl_judge.specs.Seen.{marks_over, marks_seen}
use Rattle.decl_judge.specs.Units.{handles_of, nodes_of}
use Rattle.tag_rows.proofs.attributes.marks_with_below.Goals as goal

pub returns-in-Some : goal.returns-in-Some
returns-in-Some c =
    let nodes = nodes_of c.args.unit.now in
    subst (λ (node : TreeNode (List ℕ)). IfOk c.marks_with_lists.result (λ after. marks_seen after ≡ marks_over nodes (marks_seen c.args.marks) (handles_of node.children)))
    c.in-Some.ensures c.marks_with_lists.ensures
