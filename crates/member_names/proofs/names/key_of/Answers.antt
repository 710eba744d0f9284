use Rattle.std.proofs.Common.{◌≡◌, ℕ, List, true, false, ◌&&◌, not, ap, sym, ◌∙◌}
use Rattle.std.proofs.lemmas.Bool.{and_left, and_right}
use Rattle.meaning_tree.specs.Nodes.{TreeNode}
use Rattle.meaning_typing.specs.MemberDeclarations.{is_empty}
use Rattle.meaning_typing.specs.MemberRows.{is_declarator_kind, is_member_declaration, is_member_declarator}
use Rattle.meaning_typing.specs.Surroundings.{surrounding_at}
use Rattle.meaning_typing.specs.Units.{kind_at, node_at}
use Rattle.c_tree.specs.Seen.{node_of}
use Rattle.decl_judge.specs.Units.{named_node, nodes_of}
use Rattle.decl_judge.proofs.NodeLemmas.{named_at}
use Rattle.node_surroundings.specs.Seen.{surroundings_seen}
use Rattle.member_names.proofs.NameLemmas.{named, unnamed}
use Rattle.member_names.proofs.names.key_of.Goals.{then-not-is_declarator-via-then-not-is_declarator, then-not-is_declarator-via-else-not-is_declarator+then-not-is_member_declaration}
use Rattle.member_names.proofs.names.key_of.Goals as goal

pub returns-then-not-is_declarator-clause-none : goal.returns-then-not-is_declarator-clause-none
returns-then-not-is_declarator-clause-none c =
    let nodes = nodes_of c.args.unit.now in
    let surroundings = surroundings_seen c.args.surroundings.now in
    let handle = c.args.handle in
    let node : named_node (node_of c.node-node.result.now) ≡ node_at nodes handle =
    named_at c.args.unit.now handle (node_of c.node-node.result.now) c.requires.whole c.node-node.ensures in
    let declarator : c.is_declarator.result ≡ is_declarator_kind (kind_at nodes handle) =
    c.is_declarator.ensures ∙ ap (λ (one : TreeNode (List ℕ)). is_declarator_kind one.kind) node in
    let no_member : is_member_declarator nodes surroundings handle ≡ false = elim c.then-not-is_declarator.branch [
      | then-not-is_declarator-via-then-not-is_declarator w ↦
          and_left (is_declarator_kind (kind_at nodes handle)) _ (sym declarator ∙ w.if-not-is_declarator.true)
      | then-not-is_declarator-via-else-not-is_declarator+then-not-is_member_declaration w ↦
          and_right (is_declarator_kind (kind_at nodes handle)) (is_member_declaration (kind_at nodes (surrounding_at surroundings handle).parent))
          (ap (λ one. is_member_declaration (kind_at nodes one.parent)) (sym c.get-declaration.ensures.seen)
          ∙ ap is_member_declaration (sym w.kind_at.ensures)
          ∙ sym w.is_member_declaration.ensures ∙ w.if-not-is_member_declaration.true)
    ] in
    and_left (is_member_declarator nodes surroundings handle) (not (is_empty (node_at nodes handle).name)) no_member

pub returns-then-node-eq0-clause-none : goal.returns-then-node-eq0-clause-none
returns-then-node-eq0-clause-none c =
    let nodes = nodes_of c.args.unit.now in
    let surroundings = surroundings_seen c.args.surroundings.now in
    let handle = c.args.handle in
    let node : named_node (node_of c.node-node.result.now) ≡ node_at nodes handle =
    named_at c.args.unit.now handle (node_of c.node-node.result.now) c.requires.whole c.node-node.ensures in
    and_right (is_member_declarator nodes surroundings handle) (not (is_empty (node_at nodes handle).name))
    (ap (λ (one : TreeNode (List ℕ)). not (is_empty one.name)) (sym node) ∙ unnamed c.node-node.result.now.name c.if-node-eq0.true)

pub returns-clause-is : goal.returns-clause-is
returns-clause-is c =
    let nodes = nodes_of c.args.unit.now in
    let surroundings = surroundings_seen c.args.surroundings.now in
    let handle = c.args.handle in
    let node : named_node (node_of c.node-node.result.now) ≡ node_at nodes handle =
    named_at c.args.unit.now handle (node_of c.node-node.result.now) c.requires.whole c.node-node.ensures in
    let declarator : is_declarator_kind (kind_at nodes handle) ≡ true =
    ap (λ (one : TreeNode (List ℕ)). is_declarator_kind one.kind) (sym node) ∙ sym c.is_declarator.ensures ∙ c.if-not-is_declarator.false in
    let member : is_member_declaration (kind_at nodes (surrounding_at surroundings handle).parent) ≡ true =
    ap (λ one. is_member_declaration (kind_at nodes one.parent)) (sym c.get-declaration.ensures.seen)
    ∙ ap is_member_declaration (sym c.kind_at.ensures)
    ∙ sym c.is_member_declaration.ensures ∙ c.if-not-is_member_declaration.false in
    (λ i. (declarator i && member i) && (ap (λ (one : TreeNode (List ℕ)). not (is_empty one.name)) (sym node) ∙ named c.node-node.result.now.name c.if-node-eq0.false) i)

pub returns-clause-name : goal.returns-clause-name
returns-clause-name c =
    ap (λ (one : TreeNode (List ℕ)). one.name)
    (named_at c.args.unit.now c.args.handle (node_of c.node-node.result.now) c.requires.whole c.node-node.ensures)
