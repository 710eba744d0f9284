-- What a node names, by what was read of it.
use Rattle.std.proofs.Common.{◌≡◌, ◌≢◌, ℕ, List, Option, Some, None, refl, sym, ap, ◌∙◌}
use Rattle.vocabulary.specs.declared.node_kind.NodeKind.{NodeKind}
use Rattle.vocabulary.specs.declared.node_kind.NodeKind.TheVariants as kinds
use Rattle.sparse_model.specs.declared.ids.NameId.{NameId}
use Rattle.meaning_tree.specs.Nodes.{TreeNode, NodeList, HasNode}
use Rattle.meaning_typing.specs.Surroundings.{Surrounding}
use Rattle.meaning_typing.specs.Units.{UnitNodes, kind_at, node_at}
use Rattle.c_types.specs.declared.bodies.Named.{Named}
use Rattle.c_types.specs.declared.bodies.Named.TheVariants as named
use Rattle.decl_judge.specs.Units.{nodes_of}
use Rattle.expr_judge.proofs.NodeLemmas.{kind-is, node-is}
use Rattle.node_facts.specs.Facts.{name_seen}
use Rattle.node_judge.specs.NamedTypes.{named_by, with_name_of, with_node}

no_name :
    (nodes : UnitNodes) (surroundings : List Surrounding) (handle : ℕ) (kind : NodeKind) → kind ≢ kinds.StructSpecifier → kind ≢ kinds.UnionSpecifier
    → kind ≢ kinds.Declarator → None ≡ named_by nodes surroundings handle kind
no_name nodes surroundings handle kinds.StructSpecifier structure union declares = absurd (structure refl)
no_name nodes surroundings handle kinds.UnionSpecifier structure union declares = absurd (union refl)
no_name nodes surroundings handle kinds.Declarator structure union declares = absurd (declares refl)
no_name nodes surroundings handle kind structure union declares = refl

module _ (unit : NodeList NameId) (whole : unit.first ≡ 0) (surroundings : List Surrounding) (handle : ℕ) (node : TreeNode NameId)
    (has : HasNode unit handle node) where
  abbrev nodes : UnitNodes
  nodes = nodes_of unit

  -- a node of this kind
  pub kind_names : (kind : NodeKind) → node.kind ≡ kind → named_by nodes surroundings handle kind ≡ named_by nodes surroundings handle (kind_at nodes handle)
  kind_names kind is = ap (named_by nodes surroundings handle) (sym (kind-is unit whole handle node kind has is))

  -- one of any other kind
  pub none_named : node.kind ≢ kinds.StructSpecifier → node.kind ≢ kinds.UnionSpecifier → node.kind ≢ kinds.Declarator
      → None ≡ named_by nodes surroundings handle (kind_at nodes handle)
  none_named structure union declares = no_name nodes surroundings handle node.kind structure union declares ∙ kind_names node.kind refl

  -- one that names the structure or the union with its number
  pub tag_names : (what : Option Named) → what ≡ Some (named.Tag node.number) → what ≡ Some (named.Tag (node_at nodes handle).number)
  tag_names what is = is ∙ ap (λ (n : TreeNode (List ℕ)). Some (named.Tag n.number)) (sym (node-is unit whole handle node has))

  -- what its name tells of this
  pub node_tells : (what : Option Named) → what ≡ named_by nodes surroundings handle (kind_at nodes handle) → (names : List (Named × NameId))
      → with_name_of names what (name_seen node.name) ≡ with_node nodes surroundings handle names
  node_tells what is names =
      λ i. with_name_of names (is i) (sym (node-is unit whole handle node has) i).name
