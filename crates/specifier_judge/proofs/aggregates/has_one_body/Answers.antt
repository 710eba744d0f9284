use Rattle.std.proofs.Common.{ℕ, List, length, nat_le, ap, ◌∙◌}
use Rattle.meaning_tree.specs.Nodes.{TreeNode}
use Rattle.c_tree.specs.Seen.{node_of}
use Rattle.decl_judge.specs.Units.{handles_of, nodes_of}
use Rattle.decl_judge.proofs.NodeLemmas.{named_at}
use Rattle.specifier_judge.specs.Parts.{lists_among}
use Rattle.specifier_judge.proofs.aggregates.has_one_body.Goals as goal

pub returns : goal.returns
returns c =
    let unit = c.args.unit.now in
    c.is_one_list.ensures
    ∙ ap (λ (one : TreeNode (List ℕ)). nat_le (length (lists_among (nodes_of unit) (handles_of one.children))) 1)
    (named_at unit c.args.handle (node_of c.node.result.now) c.requires.whole c.node.ensures)
