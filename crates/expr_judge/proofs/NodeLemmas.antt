-- The nodes of a unit under the names as they are seen.
use Rattle.std.proofs.Common.{◌≡◌, ℕ, length, map, sym, ap, ◌∙◌, arith}
use Rattle.sparse_model.specs.declared.ids.NameId.{NameId}
use Rattle.vocabulary.specs.declared.node_kind.NodeKind.{NodeKind}
use Rattle.meaning_tree.specs.Nodes.{TreeNode, NodeList, HasNode, end_of}
use Rattle.meaning_tree.specs.Listed.{renamed_node}
use Rattle.c_tree.specs.Seen.{HasNodeWith}
use Rattle.meaning_typing.specs.Typing.{token_at}
use Rattle.meaning_typing.specs.Units.{children_at, kind_at, node_at}
use Rattle.node_facts.specs.Facts.{name_seen}
use Rattle.node_surroundings.proofs.UnitLemmas.{length-named, node_at-named}
use Rattle.decl_judge.specs.Units.{nodes_of}

module _ (unit : NodeList NameId) (whole : unit.first ≡ 0) where
  pub length-nodes : length (nodes_of unit) ≡ length unit.nodes
  length-nodes = length-named name_seen unit

  pub end-nodes : end_of unit ≡ length (nodes_of unit)
  end-nodes = omega (arith, whole, length-nodes)

  pub node-is : (handle : ℕ) (node : TreeNode NameId) → HasNode unit handle node → node_at (nodes_of unit) handle ≡ renamed_node name_seen node
  node-is handle node has = node_at-named name_seen unit whole handle node has

  pub kind-is : (handle : ℕ) (node : TreeNode NameId) (kind : NodeKind) → HasNode unit handle node → node.kind ≡ kind → kind_at (nodes_of unit) handle ≡ kind
  kind-is handle node kind has is = ap (λ n. n.kind) (node-is handle node has) ∙ is

  pub token-is : (handle token : ℕ) → HasNodeWith unit handle (λ node. node.token ≡ token) → token_at (nodes_of unit) handle ≡ token
  token-is handle token (node, has, is) = ap (λ n. n.token) (node-is handle node has) ∙ is

  -- and its children
  pub children-are : (handle : ℕ) (node : TreeNode NameId) → HasNode unit handle node → map (λ child. child.0) node.children ≡ children_at (nodes_of unit) handle
  children-are handle node has = ap (λ n. map (λ child. child.0) n.children) (sym (node-is handle node has))
