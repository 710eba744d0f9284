-- Whether the names of a tree are told and linked, as tests that examples compute.
use Rattle.std.proofs.Common.{◌≡◌, ℕ, zero, suc, ◌+◌, ◌<◌, Bool, true, false, ◌&&◌, nat_lt, List, [], ◌∷◌, Option, Some, None, slice_get, if◌then◌else◌, refl, sym, ap, subst, ◌∙◌, arith}
use Rattle.std.specs.Str.{bytes_eq}
use Rattle.std.proofs.lemmas.Bool.{and_parts, ltb-true}
use Rattle.std.proofs.lemmas.Option.{none-some, same_Some}
use Rattle.std.proofs.lemmas.Slice.Eq.{bytes_eq-Decides}
use Rattle.vocabulary.specs.declared.node_kind.NodeKind.{NodeKind}
use Rattle.vocabulary.specs.declared.node_kind.NodeKind.TheVariants.{Name}
use Rattle.meaning_tree.specs.Trees.{SyntaxTree, Node, Parts, NoParts, Part}
use Rattle.meaning_tree.specs.Nodes.{TreeNode}
use Rattle.meaning_typing.specs.Units.{UnitNodes}
use Rattle.meaning_unit_nodes.specs.Linked.{AreLinked, HasLink, is_declaring}
use Rattle.meaning_first_units.specs.Trees.{EachName, EachNameIn}

-- Names

abbrev mutual
  pub each_name : (List ℕ → Bool) → SyntaxTree → Bool
  each_name test (Node kind token name number parts) = test name && each_name_in test parts

  pub each_name_in : (List ℕ → Bool) → Parts (List ℕ) → Bool
  each_name_in test NoParts = true
  each_name_in test (Part role tree parts) = each_name test tree && each_name_in test parts

mutual
  pub names-so : (test : List ℕ → Bool) (tree : SyntaxTree) → each_name test tree ≡ true → EachName (λ name. test name ≡ true) tree
  names-so test (Node kind token name number parts) is =
      let both = and_parts (test name) (each_name_in test parts) is in
      (both.0, parts-so test parts both.1)

  parts-so : (test : List ℕ → Bool) (parts : Parts (List ℕ)) → each_name_in test parts ≡ true → EachNameIn (λ name. test name ≡ true) parts
  parts-so test NoParts is = tt
  parts-so test (Part role tree parts) is =
      let both = and_parts (each_name test tree) (each_name_in test parts) is in
      (names-so test tree both.0, parts-so test parts both.1)

-- Links

abbrev is_name : NodeKind → Bool
is_name Name = true
is_name kind = false

abbrev declares : Option (TreeNode (List ℕ)) → (name : List ℕ) → Bool
declares None name = false
declares (Some node) name = is_declaring node.kind && bytes_eq node.name name

abbrev has_link : UnitNodes → (handle : ℕ) → TreeNode (List ℕ) → Bool
has_link nodes handle node = nat_lt node.number handle && declares (slice_get nodes node.number) node.name

-- of the nodes of which the first one has this handle
abbrev pub are_linked : UnitNodes → (first : ℕ) → UnitNodes → Bool
are_linked nodes first [] = true
are_linked nodes first (node ∷ others) = (if is_name node.kind then has_link nodes first node else true) && are_linked nodes (first + 1) others

link-to : (nodes : UnitNodes) (handle : ℕ) (node : TreeNode (List ℕ)) (found : Option (TreeNode (List ℕ))) → node.number < handle
    → slice_get nodes node.number ≡ found → declares found node.name ≡ true → HasLink nodes handle node
link-to nodes handle node None before stands is = absurd (cc is)
link-to nodes handle node (Some declaration) before stands is =
    let both = and_parts (is_declaring declaration.kind) (bytes_eq declaration.name node.name) is in
    record { before = before; declaration = declaration; stands = stands; declares = both.0; same = (bytes_eq-Decides declaration.name node.name).0 both.1 }

own-link : (nodes : UnitNodes) (handle : ℕ) (node : TreeNode (List ℕ)) → (if is_name node.kind then has_link nodes handle node else true) ≡ true → node.kind ≡ Name
    → HasLink nodes handle node
own-link nodes handle node is is_kind =
    let linked = sym (ap (λ kind. if is_name kind then has_link nodes handle node else true) is_kind) ∙ is in
    let both = and_parts (nat_lt node.number handle) (declares (slice_get nodes node.number) node.name) linked in
    link-to nodes handle node (slice_get nodes node.number) (ltb-true node.number handle both.0) refl both.1

links-from :
    (nodes : UnitNodes) (first : ℕ) (others : UnitNodes) → are_linked nodes first others ≡ true → (place : ℕ) (node : TreeNode (List ℕ))
    → slice_get others place ≡ Some node → node.kind ≡ Name → HasLink nodes (first + place) node
links-from nodes first [] is place node stands is_kind = absurd (none-some node stands)
links-from nodes first (one ∷ others) is zero node stands is_kind =
    let both = and_parts (if is_name one.kind then has_link nodes first one else true) (are_linked nodes (first + 1) others) is in
    let same = same_Some one node stands in
    let here : first ≡ first + 0 = omega arith in
    subst (λ handle. HasLink nodes handle node) here
    (subst (HasLink nodes first) same (own-link nodes first one both.0 (ap (λ (n : TreeNode (List ℕ)). n.kind) same ∙ is_kind)))
links-from nodes first (one ∷ others) is (suc place) node stands is_kind =
    let both = and_parts (if is_name one.kind then has_link nodes first one else true) (are_linked nodes (first + 1) others) is in
    let there : first + 1 + place ≡ first + suc place = omega arith in
    subst (λ handle. HasLink nodes handle node) there (links-from nodes (first + 1) others both.1 place node stands is_kind)

pub links-so : (nodes : UnitNodes) → are_linked nodes 0 nodes ≡ true → AreLinked nodes
links-so nodes is handle node stands is_kind =
    let here : 0 + handle ≡ handle = omega arith in
    subst (λ at. HasLink nodes at node) here (links-from nodes 0 nodes is handle node stands is_kind)
