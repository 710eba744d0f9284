use Rattle.std.proofs.Common.{◌≡◌, ℕ, List, [], true, ◌&&◌, not, if◌then◌else◌, ap, sym, ◌∙◌}
use Rattle.vocabulary.specs.declared.error_kind.ErrorKind.TheVariants.{MemberDeclaredTwice}
use Rattle.meaning_tree.specs.Nodes.{TreeNode}
use Rattle.meaning_rules.specs.Rules.{least_broken}
use Rattle.meaning_typing.specs.MemberDeclarations.{is_empty}
use Rattle.meaning_typing.specs.MemberRows.{names_same_member}
use Rattle.meaning_typing.specs.Rows.{breaks_named}
use Rattle.meaning_typing.specs.Tags.{is_any_below}
use Rattle.meaning_typing.specs.Units.{node_at}
use Rattle.c_tree.specs.Seen.{node_of}
use Rattle.decl_judge.specs.Units.{nodes_of}
use Rattle.decl_judge.proofs.NodeLemmas.{named_at}
use Rattle.member_names.proofs.broken.name_broken.Goals as goal

pub returns : goal.returns
returns c = λ surroundings are member.
    let nodes = nodes_of c.args.unit.now in
    let handle = c.args.handle in
    let any = is_any_below (λ other. names_same_member nodes surroundings handle other) handle in
    let named = not (is_empty (node_at nodes handle).name) in
    let broken : true ≡ (named && any) =
    sym c.if-not-is_declared_twice.false ∙ c.is_declared_twice.ensures nodes surroundings are ∙ ap (λ test. (test && named) && any) member in
    ap (λ (one : TreeNode (List ℕ)). least_broken (breaks_named MemberDeclaredTwice one.token one.name))
    (named_at c.args.unit.now handle (node_of c.node-node.result.now) c.requires.whole c.node-node.ensures)
    ∙ ap (λ test. least_broken (if test then breaks_named MemberDeclaredTwice (node_at nodes handle).token (node_at nodes handle).name else [])) broken
