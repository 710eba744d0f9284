-- Each node of a laid unit but the last stands below one other node, at one place, which its surrounding tells.
use Rattle.std.proofs.Common.{◌≡◌, ℕ, ◌+◌, ◌<◌, nat_lt, Bool, true, false, List, [], ◌∷◌, map, length, slice_get, Option, Some, None, option_map, if◌then◌else◌, zero, suc, refl, sym, ap, ◌∙◌, arith}
use Rattle.std.specs.Option.{option_and_then}
use Rattle.std.proofs.lemmas.Bool.{le-ltb}
use Rattle.std.proofs.lemmas.List.{length-map}
use Rattle.std.proofs.lemmas.Option.{get_or_from_slice_get, none-some, same_Some, slice_get-map}
use Rattle.sparse_model.specs.declared.ids.NameId.{NameId}
use Rattle.vocabulary.specs.Roles.{role_of}
use Rattle.meaning_tree.specs.Laid.{IsLaid}
use Rattle.meaning_tree.specs.Listed.{renamed_node}
use Rattle.meaning_tree.specs.LookUps.{child_at as child_found, node_at as node_found}
use Rattle.meaning_tree.specs.Nodes.{TreeNode, NodeList, end_of}
use Rattle.meaning_typing.specs.Surroundings.{AreSurroundings, Surrounding, asked, of_unit, surrounding_at}
use Rattle.meaning_typing.specs.Units.{UnitNodes, children_at, kind_at, node_at}
use Rattle.node_facts.specs.Facts.{name_seen}
use Rattle.node_surroundings.specs.declared.surrounding.Surrounding as code
use Rattle.node_surroundings.specs.Seen.{AreSurroundingsOf, surrounding_seen}
use Rattle.member_declarations.specs.Entries.{StandsOnce}

-- a part of a node, by its handle and its tag
with_tag : (children : List (ℕ × ℕ)) (place handle : ℕ) → slice_get (map (λ (child : ℕ × ℕ). child.0) children) place ≡ Some handle
    → (tag : ℕ) × (slice_get children place ≡ Some (handle, tag))
with_tag [] place handle found = absurd (none-some handle found)
with_tag (child ∷ children) zero handle found = (child.1, ap (λ (handle : ℕ). Some (handle, child.1)) (same_Some child.0 handle found))
with_tag (child ∷ children) (suc place) handle found = with_tag children place handle found

module _ (nodes : UnitNodes) (surroundings : List Surrounding) (are : AreSurroundings nodes surroundings) (handle : ℕ) where
  -- a part is told where it stands
  told_at : (parent place tag : ℕ) → slice_get (node_at nodes parent).children place ≡ Some (handle, tag)
      → surrounding_at surroundings handle ≡ asked (kind_at nodes parent) parent place (role_of tag) (surrounding_at surroundings parent)
  told_at parent place tag found = get_or_from_slice_get surroundings handle _ (of_unit (length surroundings)) (are.parts parent place (handle, tag) found)

  pub stands_once : (parent place tag : ℕ) → slice_get (node_at nodes parent).children place ≡ Some (handle, tag)
      → StandsOnce nodes handle (surrounding_at surroundings handle).parent (surrounding_at surroundings handle).place
  stands_once parent place tag found =
      let told = told_at parent place tag found in
      let parent_told : (surrounding_at surroundings handle).parent ≡ parent = ap (λ (standing : Surrounding). standing.parent) told in
      let place_told : (surrounding_at surroundings handle).place ≡ place = ap (λ (standing : Surrounding). standing.place) told in
      record {
        there =
            (λ i. slice_get (children_at nodes (parent_told i)) (place_told i))
            ∙ slice_get-map (λ (child : ℕ × ℕ). child.0) (node_at nodes parent).children place
            ∙ ap (option_map (λ (child : ℕ × ℕ). child.0)) found;
        once = λ other at.
            let tagged = with_tag (node_at nodes parent).children other handle (ap (λ parent. slice_get (children_at nodes parent) other) (sym parent_told) ∙ at) in
            sym (ap (λ (standing : Surrounding). standing.place) (told_at parent other tagged.0 tagged.1));
      }

-- names are nothing to children
children_named : (names : NameId → List ℕ) (nodes : List (TreeNode NameId)) (parent place : ℕ)
    → slice_get (node_at (map (renamed_node names) nodes) parent).children place
    ≡ option_and_then (λ (node : TreeNode NameId). slice_get node.children place) (slice_get nodes parent)
children_named names [] parent place = refl
children_named names (node ∷ nodes) zero place = refl
children_named names (node ∷ nodes) (suc parent) place = children_named names nodes parent place

by_test : (test : Bool) (one other : Option (TreeNode NameId)) → test ≡ false → one ≡ other → (if test then None else one) ≡ other
by_test true one other is same = cc
by_test false one other is same = same

module _ (names : NameId → List ℕ) (unit : NodeList NameId) (whole : unit.first ≡ 0) where
  found_is : (handle : ℕ) → node_found unit handle ≡ slice_get unit.nodes handle
  found_is handle =
      by_test (nat_lt handle unit.first) _ _ (le-ltb handle unit.first (omega (arith, whole))) (ap (slice_get unit.nodes) (omega (arith, whole)))

  child_is : (parent place : ℕ) → child_found unit parent place ≡ slice_get (node_at (map (renamed_node names) unit.nodes) parent).children place
  child_is parent place =
      ap (option_and_then (λ (node : TreeNode NameId). slice_get node.children place)) (found_is parent)
      ∙ sym (children_named names unit.nodes parent place)

  -- each node of a laid unit but the last
  pub part_stands : (surroundings : List Surrounding) → AreSurroundings (map (renamed_node names) unit.nodes) surroundings → IsLaid unit
      → (handle : ℕ) → handle + 1 < end_of unit
      → StandsOnce (map (renamed_node names) unit.nodes) handle (surrounding_at surroundings handle).parent (surrounding_at surroundings handle).place
  part_stands surroundings are laid handle part =
      let one = laid.parents handle (omega (arith, whole)) part in
      stands_once (map (renamed_node names) unit.nodes) surroundings are handle one.0 one.1 one.2.0 (sym (child_is one.0 one.1) ∙ one.2.1)

-- such a node has a surrounding
pub part_within : (unit : NodeList NameId) (surroundings : List code.Surrounding) → unit.first ≡ 0 → AreSurroundingsOf unit surroundings
    → (handle : ℕ) → handle + 1 < end_of unit → handle < length surroundings
part_within unit surroundings whole are handle part =
    omega (
      arith,
      whole,
      part,
      (are name_seen).all,
      length-map surroundings surrounding_seen,
      length-map unit.nodes (renamed_node name_seen),
    )

-- a node with a part is there
pub parent_there : (nodes : UnitNodes) (parent place handle : ℕ) → slice_get (children_at nodes parent) place ≡ Some handle → parent < length nodes
parent_there [] parent place handle found = absurd (none-some handle found)
parent_there (node ∷ nodes) zero place handle found = omega arith
parent_there (node ∷ nodes) (suc parent) place handle found = omega (arith, parent_there nodes parent place handle found)
