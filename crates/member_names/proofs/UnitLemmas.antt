-- In a unit that makes one tree the node above a node stands behind it.
use Rattle.std.proofs.Common.{◌≡◌, ℕ, ◌+◌, ◌-◌, ◌<◌, ◌≤◌, ◌⊎◌, inl, inr, if◌then◌else◌, Bool, true, false, nat_lt, List, length, Option, Some, None, slice_get, unwrap_or, refl, sym, ap, subst, ◌∙◌, arith}
use Rattle.std.specs.Option.{option_and_then}
use Rattle.std.proofs.lemmas.Bool.{le-ltb}
use Rattle.std.proofs.lemmas.List.Elements.{All-get_or}
use Rattle.std.proofs.lemmas.Option.{none-some, slice_get_within, slice_get_cases, slice_get-get_or, get_or_from_slice_get, unwrap_or-slice_get}
use Rattle.vocabulary.specs.Roles.{role_of}
use Rattle.meaning_tree.specs.Nodes.{TreeNode}
use Rattle.meaning_tree.specs.Laid.{HasOneParent}
use Rattle.meaning_tree.specs.LookUps.{child_at, node_at as found_at}
use Rattle.meaning_typing.specs.Units.{UnitNodes, kind_at, no_node, node_at, unit_list}
use Rattle.meaning_typing.specs.Surroundings.{Surrounding, AreSurroundings, asked, of_unit, surrounding_at}
use Rattle.meaning_typing.specs.laws.Surroundings.{IsLaidUnit}
use Rattle.member_names.specs.Homes.{EachIsPart, LaidUnitsAreParts, PartsHaveParentsBehind}

-- Children

-- a node has this child at this place
abbrev HasChild : UnitNodes → (parent place : ℕ) → ℕ × ℕ → Type 0
HasChild nodes parent place child = slice_get (node_at nodes parent).children place ≡ Some child

-- by whether there is the node
child_by : (found : Option (TreeNode (List ℕ))) (place : ℕ)
    → option_and_then (λ node. slice_get node.children place) found ≡ slice_get (unwrap_or found no_node).children place
child_by None place = refl
child_by (Some node) place = refl

-- a look-up in the list of the unit is one among the nodes
found_by : (before : Bool) (one other : Option (TreeNode (List ℕ))) → before ≡ false → one ≡ other → (if before then None else one) ≡ other
found_by true one other is same = absurd (cc is)
found_by false one other is same = same

found_is : (nodes : UnitNodes) (handle : ℕ) → found_at (unit_list nodes) handle ≡ slice_get nodes handle
found_is nodes handle = found_by (nat_lt handle 0) _ _ (le-ltb handle 0 (omega arith)) (ap (slice_get nodes) (omega arith))

child_is : (nodes : UnitNodes) (parent place : ℕ) → child_at (unit_list nodes) parent place ≡ slice_get (node_at nodes parent).children place
child_is nodes parent place =
    ap (option_and_then (λ (node : TreeNode (List ℕ)). slice_get node.children place)) (found_is nodes parent)
    ∙ child_by (slice_get nodes parent) place
    ∙ ap (λ (node : TreeNode (List ℕ)). slice_get node.children place) (unwrap_or-slice_get nodes parent no_node)

-- a parent is one of the nodes
parent_within : (nodes : UnitNodes) (parent place : ℕ) (child : ℕ × ℕ) → HasChild nodes parent place child → parent < length nodes
parent_within nodes parent place child has =
    elim (slice_get_cases nodes parent).1 [
      | inl within ↦ within.1
      | inr past ↦ absurd (none-some child (ap (λ (node : TreeNode (List ℕ)). slice_get node.children place) (sym (sym (unwrap_or-slice_get nodes parent no_node) ∙ ap (λ found. unwrap_or found no_node) past.1)) ∙ has))
    ]

-- and stands behind its children
child_before :
    (nodes : UnitNodes) → IsLaidUnit nodes → (parent place : ℕ) (child : ℕ × ℕ) → HasChild nodes parent place child → child.0 < parent
child_before nodes unit parent place child has =
    let is : slice_get nodes (parent - 0) ≡ Some (node_at nodes parent) =
    ap (slice_get nodes) (omega arith) ∙ slice_get-get_or nodes parent no_node (parent_within nodes parent place child has) in
    (subst (λ (c : ℕ × ℕ). (0 ≤ c.0) × (c.0 < parent)) (get_or_from_slice_get (node_at nodes parent).children place child child has)
    (All-get_or (λ (c : ℕ × ℕ). (0 ≤ c.0) × (c.0 < parent)) (node_at nodes parent).children place child
    (slice_get_within (node_at nodes parent).children place child has) (unit.ordered parent (node_at nodes parent) (omega arith, is)))).1

pub laid_units_are_parts : LaidUnitsAreParts
laid_units_are_parts nodes unit handle part =
    let one : HasOneParent (unit_list nodes) handle = unit.laid.parents handle (omega arith) (omega (arith, part)) in
    let has : HasChild nodes one.0 one.1 (handle, one.2.0) = sym (child_is nodes one.0 one.1) ∙ one.2.1 in
    (one.0, one.1, one.2.0, has, child_before nodes unit one.0 one.1 (handle, one.2.0) has)

-- Parents

last_or_part : (handle count : ℕ) → handle < count → (handle ≡ count - 1) ⊎ (handle + 1 < count)
last_or_part handle count within = grind arith

module _ (nodes : UnitNodes) (surroundings : List Surrounding) (parts : EachIsPart nodes) (are : AreSurroundings nodes surroundings) where
  -- the node above this one stands no earlier, and is one of the nodes
  abbrev StandsAbove : (handle parent : ℕ) → Type 0
  StandsAbove handle parent = (handle ≤ parent) × (parent < length nodes)

  part_above : (handle : ℕ) → handle + 1 < length nodes → StandsAbove handle (surrounding_at surroundings handle).parent
  part_above handle part =
      let one = parts handle part in
      let parent = one.0 in
      let child : ℕ × ℕ = (handle, one.2) in
      let has : HasChild nodes parent one.1 child = one.3 in
      let before : handle < parent = one.4 in
      subst (λ (surrounding : Surrounding). StandsAbove handle surrounding.parent)
      (sym (get_or_from_slice_get surroundings handle (asked (kind_at nodes parent) parent one.1 (role_of child.1) (surrounding_at surroundings parent))
      (of_unit (length surroundings)) (are.parts parent one.1 child has)))
      (omega (arith, before), parent_within nodes parent one.1 child has)

  all_above : (handle : ℕ) → handle < length nodes → StandsAbove handle (surrounding_at surroundings handle).parent
  all_above handle within = elim (last_or_part handle (length nodes) within) [
    | inl last ↦
        subst (λ (surrounding : Surrounding). StandsAbove handle surrounding.parent)
        (sym (get_or_from_slice_get surroundings handle (of_unit (length nodes - 1)) (of_unit (length surroundings))
        (ap (slice_get surroundings) last ∙ are.unit (omega (arith, within)))))
        (omega (arith, last), omega (arith, within))
    | inr part ↦ part_above handle part
  ]

pub parts_have_parents_behind : PartsHaveParentsBehind
parts_have_parents_behind nodes surroundings parts are = record {
  behind = λ handle within. (all_above nodes surroundings parts are handle within).0;
  within = λ handle within. (all_above nodes surroundings parts are handle within).1;
}
