use Rattle.std.proofs.Common.{◌<◌, ℕ, All, subst}
use Rattle.sparse_model.specs.declared.ids.NameId.{NameId}
use Rattle.c_tokens.specs.Seen.{text_of, toks_of}
use Rattle.meaning_tree.specs.Nodes.{TreeNode}
use Rattle.meaning_typing.specs.Units.{UnitNodes}
use Rattle.meaning_unit_nodes.specs.Linked.{AreLinked}
use Rattle.meaning_unit_nodes.proofs.Linking.{names_stay_linked}
use Rattle.node_facts.specs.Facts.{name_seen}
use Rattle.unit_names.proofs.NodeLemmas.{nodes_of_tree}
use Rattle.ksparse.proofs.LinkedTrees.{known-ok, tree-told}
use Rattle.ksparse.proofs.check.check_tree.Goals as goal

pub judge_unit-requires-clause-tree : goal.judge_unit-requires-clause-tree
judge_unit-requires-clause-tree c =
    let names = c.args.names.now in
    let unit = c.args.unit.now in
    let tree = c.requires.tree in
    let written = c.in_ok-is_written.ensures.written c.if-branch.true (text_of names) tree.0 tree.1 in
    let named = subst (λ (count : ℕ). All (λ (node : TreeNode NameId). node.name.0 < count) unit.nodes) c.requires.told
    (c.in_ok-is_written.ensures.named c.if-branch.true) in (
      tree.0,
      tree.2,
      nodes_of_tree names (toks_of names c.args.toks.now.tokens) unit.nodes tree.0
          (record { extends = c.requires.numbered.begins; apart = c.apart.ensures.apart; empty = c.apart.ensures.empty }) written named,
    )

pub returns-then-branch-clause-linked : goal.returns-then-branch-clause-linked
returns-then-branch-clause-linked c =
    let names = c.args.names.now in
    let unit = c.args.unit.now in
    let tokens = toks_of names c.args.toks.now.tokens in
    let tree = c.requires.tree in
    let written = c.in_ok-is_written.ensures.written c.if-branch.true (text_of names) tree.0 tree.1 in
    let named = subst (λ (count : ℕ). All (λ (node : TreeNode NameId). node.name.0 < count) unit.nodes) c.requires.told
    (c.in_ok-is_written.ensures.named c.if-branch.true) in
    let nodes = nodes_of_tree names tokens unit.nodes tree.0
    (record { extends = c.requires.numbered.begins; apart = c.apart.ensures.apart; empty = c.apart.ensures.empty }) written named in
    let linked = names_stay_linked name_seen unit.nodes (c.are_linked.ensures c.if-not-are_linked.false) in
    known-ok c.judge_unit.result _ (
      tree.0,
      tree.2,
      tree-told names tokens unit tree.0 c.requires.numbered.begins named tree.1,
      subst (λ (seen : UnitNodes). AreLinked seen) nodes linked,
    )
