use Rattle.std.proofs.Common.{◌≡◌, ℕ, ◌+◌, List, IfOk, subst}
use Rattle.meaning_tree.specs.Nodes.{TreeNode}
use Rattle.decl_judge.specs.Seen.{lists_from, marks_over, marks_seen}
use Rattle.decl_judge.specs.Units.{nodes_of}
use Rattle.decl_judge.proofs.marks.marks_behind_place.Goals as goal

pub returns-in-Some : goal.returns-in-Some
returns-in-Some c =
    let nodes = nodes_of c.args.unit.now in
    subst
    (λ (node : TreeNode (List ℕ)). IfOk c.marks_after.result (λ after. marks_seen after ≡ marks_over nodes (marks_seen c.args.marks) (lists_from nodes node.children (c.args.place + 1))))
    c.in-Some.ensures c.marks_after.ensures
