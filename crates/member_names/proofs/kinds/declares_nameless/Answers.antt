use Rattle.std.proofs.Common.{◌≡◌, ℕ, List, true, ◌&&◌, not, drop, ap, sym, ◌∙◌}
use Rattle.meaning_tree.specs.Nodes.{TreeNode}
use Rattle.meaning_typing.specs.MemberDeclarations.{member_entries, pending_from}
use Rattle.meaning_typing.specs.MemberRows.{has_no_entry, is_member_declaration}
use Rattle.meaning_typing.specs.Units.{kind_at, node_at}
use Rattle.c_tree.specs.Seen.{node_of}
use Rattle.decl_judge.specs.Units.{handles_of, named_node, nodes_of}
use Rattle.member_names.proofs.KeptLemmas.{no_entry_told}
use Rattle.member_names.proofs.kinds.declares_nameless.Goals as goal

pub returns-then-is_member_declaration : goal.returns-then-is_member_declaration
returns-then-is_member_declaration c =
    let nodes = nodes_of c.args.unit.now in
    let declaration = c.args.declaration in
    let node = named_node (node_of c.in-Some.node.now) in
    let here : node ≡ node_at nodes declaration = c.in-Some.ensures in
    let is : true ≡ is_member_declaration (kind_at nodes declaration) =
    sym c.if-is_member_declaration.true ∙ c.is_member_declaration.ensures ∙ ap (λ (one : TreeNode (List ℕ)). is_member_declaration one.kind) here in
    ap not c.has_declarator.ensures
    ∙ sym (no_entry_told nodes (drop 1 (handles_of node.children)))
    ∙ ap (λ (one : TreeNode (List ℕ)). has_no_entry (pending_from nodes (drop 1 (handles_of one.children))).entries) here
    ∙ ap (λ test. test && has_no_entry (member_entries nodes declaration)) is
