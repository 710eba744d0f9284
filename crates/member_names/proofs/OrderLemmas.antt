-- The nodes of a unit that was laid stand in order.
use Rattle.std.proofs.Common.{◌≡◌, ℕ, zero, suc, if◌then◌else◌, Bool, true, false, nat_lt, List, [], ◌∷◌, Option, Some, None, map, slice_get, get_or, refl, sym, ap, ◌∙◌, arith}
use Rattle.std.specs.Option.{option_and_then}
use Rattle.std.proofs.lemmas.Bool.{le-ltb}
use Rattle.std.proofs.lemmas.List.{length-map}
use Rattle.sparse_model.specs.declared.ids.NameId.{NameId}
use Rattle.meaning_tree.specs.Nodes.{TreeNode, NodeList, ChildrenStandBefore}
use Rattle.meaning_tree.specs.Laid.{HasOneParent, IsLaid}
use Rattle.meaning_tree.specs.LookUps.{child_at, node_at as found_at}
use Rattle.meaning_typing.specs.Units.{no_node, node_at}
use Rattle.decl_judge.specs.Units.{named_node, nodes_of}
use Rattle.node_facts.specs.Facts.{name_seen}
use Rattle.node_surroundings.specs.declared.surrounding.Surrounding as code
use Rattle.node_surroundings.specs.Seen.{AreSurroundingsOf, surrounding_seen, surroundings_seen}
use Rattle.node_surroundings.proofs.UnitLemmas.{each_is_part_once}
use Rattle.member_names.specs.Homes.{EachIsPart}
use Rattle.member_names.specs.Kept.{StandInOrder}
use Rattle.member_names.proofs.UnitLemmas.{parts_have_parents_behind}

-- names are nothing to children
children_named : (nodes : List (TreeNode NameId)) (parent place : ℕ)
    → option_and_then (λ (node : TreeNode NameId). slice_get node.children place) (slice_get nodes parent)
    ≡ slice_get (get_or (map named_node nodes) parent no_node).children place
children_named [] parent place = refl
children_named (node ∷ nodes) zero place = refl
children_named (node ∷ nodes) (suc parent) place = children_named nodes parent place

found_by : (before : Bool) (one other : Option (TreeNode NameId)) → before ≡ false → one ≡ other → (if before then None else one) ≡ other
found_by true one other is same = absurd (cc is)
found_by false one other is same = same

module _ (unit : NodeList NameId) (whole : unit.first ≡ 0) where
  found_is : (handle : ℕ) → found_at unit handle ≡ slice_get unit.nodes handle
  found_is handle = found_by (nat_lt handle unit.first) _ _ (le-ltb handle unit.first (omega (arith, whole))) (ap (slice_get unit.nodes) (omega (arith, whole)))

  child_is : (parent place : ℕ) → child_at unit parent place ≡ slice_get (node_at (nodes_of unit) parent).children place
  child_is parent place =
      ap (option_and_then (λ (node : TreeNode NameId). slice_get node.children place)) (found_is parent) ∙ children_named unit.nodes parent place

  units_are_parts : IsLaid unit → ChildrenStandBefore unit → EachIsPart (nodes_of unit)
  units_are_parts laid order handle part =
      let one : HasOneParent unit handle = laid.parents handle (omega (arith, whole)) (omega (arith, part, whole, length-map unit.nodes named_node)) in
      let has : slice_get (node_at (nodes_of unit) one.0).children one.1 ≡ Some (handle, one.2.0) = sym (child_is one.0 one.1) ∙ one.2.1 in
      (one.0, one.1, one.2.0, has, (each_is_part_once name_seen unit whole laid order).before one.0 one.1 (handle, one.2.0) has)

  pub stand_in_order : IsLaid unit → ChildrenStandBefore unit → (surroundings : List code.Surrounding) → AreSurroundingsOf unit surroundings
      → StandInOrder unit surroundings
  stand_in_order laid order surroundings are = record {
    all = omega (arith, (are name_seen).all, length-map surroundings surrounding_seen, length-map unit.nodes named_node);
    parents = parts_have_parents_behind (nodes_of unit) (surroundings_seen surroundings) (units_are_parts laid order) (are name_seen);
  }
