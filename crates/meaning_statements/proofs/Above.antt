-- The nodes above a part of a node.
use Rattle.std.proofs.Common.{◌≡◌, ℕ, zero, suc, ◌+◌, ◌-◌, ◌<◌, ◌≤◌, inl, inr, if◌then◌else◌, Bool, true, false, nat_lt, List, [], ◌∷◌, length, Some, slice_get, unwrap_or, refl, sym, ap, subst, ◌∙◌, arith}
use Rattle.std.proofs.lemmas.Bool.{le-ltb}
use Rattle.std.proofs.lemmas.Bool.Decides.{nat_tests}
use Rattle.std.proofs.lemmas.List.Elements.{All-get_or}
use Rattle.std.proofs.lemmas.Option.{none-some, slice_get_within, slice_get_cases, slice_get_past, slice_get-get_or, get_or_from_slice_get, unwrap_or-slice_get}
use Rattle.vocabulary.specs.Roles.{role_of}
use Rattle.meaning_tree.specs.Nodes.{TreeNode}
use Rattle.meaning_typing.specs.Units.{UnitNodes, kind_at, no_node, node_at}
use Rattle.meaning_typing.specs.Surroundings.{Surrounding, asked, of_unit, surrounding_at}
use Rattle.meaning_typing.specs.laws.Surroundings.{IsLaidUnit}
use Rattle.meaning_statements.specs.Above.{Above, climbed, node_above}
use Rattle.meaning_statements.specs.laws.Above.{NodesAboveComeDown}

-- by a test
chosen-then : {X : Type 0} (b : Bool) (x y : X) → b ≡ true → (if b then x else y) ≡ x
chosen-then b x y is = rw is refl

chosen-else : {X : Type 0} (b : Bool) (x y : X) → b ≡ false → (if b then x else y) ≡ y
chosen-else b x y is = rw is refl

tested : (m n : ℕ) → m < n → nat_lt m n ≡ true
tested m n less = grind (arith, nat_tests)

less-by : (m n : ℕ) → nat_lt m n ≡ true → m < n
less-by m n is = grind (arith, nat_tests)

-- Children

abbrev HasChild : UnitNodes → (parent place : ℕ) → ℕ × ℕ → Type 0
HasChild nodes parent place child = slice_get (node_at nodes parent).children place ≡ Some child

-- a parent is one of the nodes
parent-within : (nodes : UnitNodes) (parent place : ℕ) (child : ℕ × ℕ) → HasChild nodes parent place child → parent < length nodes
parent-within nodes parent place child has =
    elim (slice_get_cases nodes parent).1 [
      | inl within ↦ within.1
      | inr past ↦ absurd (none-some child (ap (λ (node : TreeNode (List ℕ)). slice_get node.children place) (sym (sym (unwrap_or-slice_get nodes parent no_node) ∙ ap (λ found. unwrap_or found no_node) past.1)) ∙ has))
    ]

-- and stands behind its children
child-before :
    (nodes : UnitNodes) → IsLaidUnit nodes → (parent place : ℕ) (child : ℕ × ℕ) → HasChild nodes parent place child → child.0 < parent
child-before nodes unit parent place child has =
    let is : slice_get nodes (parent - 0) ≡ Some (node_at nodes parent) =
    ap (slice_get nodes) (omega arith) ∙ slice_get-get_or nodes parent no_node (parent-within nodes parent place child has) in
    (subst (λ (c : ℕ × ℕ). (0 ≤ c.0) × (c.0 < parent)) (get_or_from_slice_get (node_at nodes parent).children place child child has)
    (All-get_or (λ (c : ℕ × ℕ). (0 ≤ c.0) × (c.0 < parent)) (node_at nodes parent).children place child
    (slice_get_within (node_at nodes parent).children place child has) (unit.ordered parent (node_at nodes parent) (omega arith, is)))).1

-- Climbing

-- behind the nodes each stands in the unit
stands-past : (surroundings : List Surrounding) (handle : ℕ) → length surroundings ≤ handle → surrounding_at surroundings handle ≡ of_unit (length surroundings)
stands-past surroundings handle past =
    sym (unwrap_or-slice_get surroundings handle (of_unit (length surroundings)))
    ∙ ap (λ found. unwrap_or found (of_unit (length surroundings))) (slice_get_past surroundings handle past)

-- and nothing is above
nothing-above :
    (nodes : UnitNodes) (surroundings : List Surrounding) (steps handle : ℕ) → length surroundings ≤ handle → climbed nodes surroundings steps handle ≡ []
nothing-above nodes surroundings zero handle past = refl
nothing-above nodes surroundings (suc steps) handle past =
    chosen-else (nat_lt handle (surrounding_at surroundings handle).parent) _ _
    (ap (λ (s : Surrounding). nat_lt handle s.parent) (stands-past surroundings handle past) ∙ le-ltb handle (length surroundings) past)

-- two lists behind one entry are equal where they are asked for
same-behind : (above : Above) (one other : List Above) (test : Bool) → (test ≡ true → one ≡ other)
    → (if test then above ∷ one else []) ≡ (if test then above ∷ other else [])
same-behind above one other true same = ap (λ rest. above ∷ rest) (same refl)
same-behind above one other false same = refl

-- so many steps as there are nodes behind are enough
same-climb :
    (nodes : UnitNodes) (surroundings : List Surrounding) (steps others handle : ℕ)
    → length surroundings ≤ handle + steps → length surroundings ≤ handle + others
    → climbed nodes surroundings steps handle ≡ climbed nodes surroundings others handle
same-climb nodes surroundings zero others handle one two = sym (nothing-above nodes surroundings others handle (omega (arith, one)))
same-climb nodes surroundings (suc steps) zero handle one two = nothing-above nodes surroundings (suc steps) handle (omega (arith, two))
same-climb nodes surroundings (suc steps) (suc others) handle one two =
    let parent = (surrounding_at surroundings handle).parent in
    same-behind (node_above nodes (surrounding_at surroundings handle)) (climbed nodes surroundings steps parent)
    (climbed nodes surroundings others parent) (nat_lt handle parent)
    (λ is. same-climb nodes surroundings steps others parent (omega (arith, one, less-by handle parent is)) (omega (arith, two, less-by handle parent is)))

-- a step leads to the node above
climbed-on :
    (nodes : UnitNodes) (surroundings : List Surrounding) (steps handle : ℕ) (surrounding : Surrounding)
    → surrounding_at surroundings handle ≡ surrounding → handle < surrounding.parent
    → climbed nodes surroundings (suc steps) handle ≡ node_above nodes surrounding ∷ climbed nodes surroundings steps surrounding.parent
climbed-on nodes surroundings steps handle surrounding is above = rw is (chosen-then (nat_lt handle surrounding.parent) _ _ (tested handle surrounding.parent above))

pub nodes_above_come_down : NodesAboveComeDown
nodes_above_come_down nodes surroundings unit are handle place child has =
    let before = child-before nodes unit handle place child has in
    let inside = parent-within nodes handle place child has in
    let stands = asked (kind_at nodes handle) handle place (role_of child.1) (surrounding_at surroundings handle) in
    let left = length nodes - child.0 - 1 in
    ap (λ steps. climbed nodes surroundings steps child.0) {x = length nodes - child.0} {y = suc left} (omega (arith, before, inside))
    ∙ climbed-on nodes surroundings left child.0 stands (get_or_from_slice_get surroundings child.0 _ _ (are.parts handle place child has)) before
    ∙ ap (λ rest. node_above nodes stands ∷ rest)
    (same-climb nodes surroundings left (length nodes - handle) handle (omega (arith, are.all, before, inside)) (omega (arith, are.all, inside)))
