use Rattle.std.proofs.Common.{ℕ, List, ap, sym, subst, ◌∙◌}
use Rattle.meaning_tree.specs.Nodes.{TreeNode}
use Rattle.decl_judge.specs.Units.{handles_of, nodes_of}
use Rattle.member_declarations.specs.Flexible.{IsToldOf, flexible_over, nothing_kept}
use Rattle.member_declarations.proofs.FlexibleLemmas.{body_told}
use Rattle.member_declarations.proofs.flexible.FlexiblePlace.body_of.Goals as goal

pub returns-in-Some : goal.returns-in-Some
returns-in-Some c =
    let nodes = nodes_of c.args.unit.now in
    subst (IsToldOf nodes c.args.list)
    (sym (c.among.ensures ∙ ap (λ (node : TreeNode (List ℕ)). flexible_over nodes 0 nothing_kept (handles_of node.children)) c.in-Some.ensures))
    (body_told nodes c.args.list)
