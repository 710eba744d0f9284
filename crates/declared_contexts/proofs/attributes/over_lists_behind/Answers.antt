use Rattle.std.proofs.Common.{◌≡◌, ℕ, ◌+◌, List, IfOk, option_map, subst}
use Rattle.meaning_tree.specs.Nodes.{TreeNode}
use Rattle.meaning_typing.specs.Specifiers.{attributes_among}
use Rattle.decl_judge.specs.Seen.{lists_from}
use Rattle.decl_judge.specs.Units.{nodes_of}
use Rattle.linked_names.specs.Contexts.{sums_of}
use Rattle.declared_contexts.specs.Sums.{sums_over}
use Rattle.declared_contexts.proofs.attributes.over_lists_behind.Goals as goal

pub returns-in-Some : goal.returns-in-Some
returns-in-Some c =
    let nodes = nodes_of c.args.unit.now in
    subst
    (λ (node : TreeNode (List ℕ)). IfOk c.over_lists_after.result
    (λ more. option_map sums_of more ≡ sums_over nodes (option_map sums_of c.args.sums) (attributes_among nodes (lists_from nodes node.children (c.args.place + 1)))))
    c.in-Some.ensures c.over_lists_after.ensures
