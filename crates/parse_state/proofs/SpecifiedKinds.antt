-- What specifiers come to by their handles is what their trees come to.
use Rattle.std.proofs.Common.{◌≡◌, ℕ, ◌-◌, ◌<◌, ◌≤◌, Bool, true, ◌&&◌, List, [], ◌∷◌, length, Option, All, refl, sym, ap, ap₂, ◌∙◌, arith}
use Rattle.std.specs.List.{list_all}
use Rattle.std.proofs.lemmas.Bool.{and_parts, lt-ltb, ltb-true}
use Rattle.std.proofs.lemmas.List.Elements.{All-head, All-tail}
use Rattle.std.proofs.lemmas.Option.{slice_get_within}
use Rattle.vocabulary.specs.declared.role.Role.{Role}
use Rattle.vocabulary.specs.declared.node_kind.NodeKind.{NodeKind}
use Rattle.vocabulary.specs.Roles.{role_of}
use Rattle.meaning_tree.specs.Trees.{Parts, Part}
use Rattle.meaning_tree.specs.Nodes.{TreeNode, NodeList, HasNode, ChildrenStandBefore}
use Rattle.meaning_tree.specs.Listed.{tree_at, parts_at}
use Rattle.meaning_tree.specs.LookUps.{node_at}
use Rattle.meaning_tree.proofs.LookingUp.{node_at-exact}
use Rattle.meaning_derivation.specs.Values as values
use Rattle.meaning_derivation.specs.Scoping.{parts_below}
use Rattle.meaning_derivation.specs.Specifiers.{kinds_of, nothing_specified, specified_by, specified_from}
use Rattle.sparse_model.specs.declared.ids.NameId.{NameId}
use Rattle.parse_state.specs.Seen.{spelled_trees}
use Rattle.parse_state.specs.Giving.{is_below}
use Rattle.parse_state.specs.Specifying.{child_kinds, kind_seen}
use Rattle.parse_state.proofs.Parts.{node_seen, node_there}

-- children before a node are before the end of the list
pub below_end : (first bound end : ℕ) → bound ≤ end → (children : List (ℕ × ℕ)) → All (λ child. (first ≤ child.0) × (child.0 < bound)) children
    → list_all (is_below end) children ≡ true
below_end first bound end within [] below = refl
below_end first bound end within (child ∷ children) below =
    let one = All-head (λ (child : ℕ × ℕ). (first ≤ child.0) × (child.0 < bound)) child children below in
    let before = one.1 in
    ap₂ (λ (head rest : Bool). head && rest) (lt-ltb child.0 end (omega (arith, before, within)))
    (below_end first bound end within children (All-tail (λ (child : ℕ × ℕ). (first ≤ child.0) × (child.0 < bound)) child children below))

module _ (names : List (List ℕ)) (list : NodeList NameId) (first : list.first ≡ 0) (order : ChildrenStandBefore list) where
  kind-seen : (role : Role) (others : Parts (List ℕ)) (handle : ℕ) → handle < length list.nodes
      → kinds_of (Part role (tree_at (spelled_trees names list) handle) others) ≡ kind_seen (node_at list handle) ∷ kinds_of others
  kind-seen role others handle below =
      let (node, found) = node_there list handle (omega (arith, first)) (omega (arith, first, below)) in
      ap (λ tree. kinds_of (Part role tree others)) (node_seen names list first order handle node ((node_at-exact list handle node).0 found))
      ∙ sym (ap (λ (one : Option (TreeNode NameId)). kind_seen one ∷ kinds_of others) found)

  kinds-seen : (children : List (ℕ × ℕ)) → list_all (is_below (length list.nodes)) children ≡ true
      → kinds_of (parts_at (spelled_trees names list) children) ≡ child_kinds list children
  kinds-seen [] below = refl
  kinds-seen (child ∷ children) below =
      let halves = and_parts (is_below (length list.nodes) child) (list_all (is_below (length list.nodes)) children) below in
      kind-seen (role_of child.1) (parts_at (spelled_trees names list) children) child.0 (ltb-true child.0 (length list.nodes) halves.0)
      ∙ ap (λ (rest : List NodeKind). kind_seen (node_at list child.0) ∷ rest) (kinds-seen children halves.1)

  -- those of these children
  pub specified-seen : (children : List (ℕ × ℕ)) → list_all (is_below (length list.nodes)) children ≡ true
      → specified_by (parts_at (spelled_trees names list) children) ≡ specified_from nothing_specified (child_kinds list children)
  specified-seen children below = ap (specified_from nothing_specified) (kinds-seen children below)

  -- the children of a node are known
  pub children_known : (handle : ℕ) (node : TreeNode NameId) → HasNode list handle node → list_all (is_below (length list.nodes)) node.children ≡ true
  children_known handle node has =
      let within : handle - list.first < length list.nodes = slice_get_within list.nodes (handle - list.first) node has.1 in
      below_end list.first handle (length list.nodes) (omega (arith, first, within)) node.children (order handle node has)

  -- those of its tree
  pub node_specified-seen : (handle : ℕ) (node : TreeNode NameId) → HasNode list handle node
      → specified_by (parts_below (values.TreeValue (tree_at (spelled_trees names list) handle))) ≡ specified_from nothing_specified (child_kinds list node.children)
  node_specified-seen handle node has =
      ap (λ tree. specified_by (parts_below (values.TreeValue tree))) (node_seen names list first order handle node has)
      ∙ specified-seen node.children (children_known handle node has)
