-- A laid unit has exactly one list of surroundings.
use Rattle.std.proofs.Common.{◌≡◌, ℕ, zero, suc, ◌+◌, ◌-◌, ◌<◌, ◌≤◌, ◌⊎◌, inl, inr, if◌then◌else◌, Bool, true, false, nat_eq, nat_lt, List, [], ◌∷◌, length, Option, Some, None, slice_get, get_or, unwrap_or, refl, sym, ap, ap₂, subst, ◌∙◌, arith}
use Rattle.std.specs.Option.{option_and_then}
use Rattle.std.proofs.lemmas.Option.{none-some, same_Some, slice_get_within, slice_get_cases, slice_get_past, slice_get-get_or, get_or_from_slice_get, unwrap_or-slice_get}
use Rattle.std.proofs.lemmas.Bool.{le-ltb}
use Rattle.std.proofs.lemmas.List.Elements.{All-get_or}
use Rattle.std.proofs.lemmas.Bool.Decides.{eqb_tells}
use Rattle.vocabulary.specs.Roles.{role_of}
use Rattle.meaning_tree.specs.Nodes.{TreeNode}
use Rattle.meaning_tree.specs.LookUps.{child_at, node_at as found_at}
use Rattle.meaning_tree.specs.Laid.{IsChildAt, HasOneParent}
use Rattle.meaning_typing.specs.Units.{UnitNodes, no_node, node_at, kind_at, unit_list}
use Rattle.meaning_typing.specs.Surroundings.{Surrounding, asked, of_unit, surrounding_at, AreSurroundings}
use Rattle.meaning_typing.specs.Building.{Standing, standing_among, first_standing, standing_in, surrounding_of, last_surroundings, surroundings_of}
use Rattle.meaning_typing.specs.laws.Surroundings.{IsLaidUnit, SurroundingsAreUnique, SurroundingsAreFound}
use Rattle.meaning_typing.proofs.Lists.{same_lists}

last-or-part : (handle count : ℕ) → handle < count → (handle ≡ count - 1) ⊎ (handle + 1 < count)
last-or-part handle count within = grind arith

nat_split : (handle count : ℕ) → (handle < count) ⊎ (count ≤ handle)
nat_split handle count = grind arith

-- by a test
chosen-then : {X : Type 0} (b : Bool) (x y : X) → b ≡ true → (if b then x else y) ≡ x
chosen-then b x y is = rw is refl

chosen-else : {X : Type 0} (b : Bool) (x y : X) → b ≡ false → (if b then x else y) ≡ y
chosen-else b x y is = rw is refl

-- Children

-- a node has this child at this place
abbrev HasChild : UnitNodes → (parent place : ℕ) → ℕ × ℕ → Type 0
HasChild nodes parent place child = slice_get (node_at nodes parent).children place ≡ Some child

-- by whether there is the node
child-by : (found : Option (TreeNode (List ℕ))) (place : ℕ)
    → option_and_then (λ node. slice_get node.children place) found ≡ slice_get (unwrap_or found no_node).children place
child-by None place = refl
child-by (Some node) place = refl

-- a look-up in the list of the unit is one among the nodes
found-by : (before : Bool) (one other : Option (TreeNode (List ℕ))) → before ≡ false → one ≡ other → (if before then None else one) ≡ other
found-by true one other is same = absurd (cc is)
found-by false one other is same = same

found-is : (nodes : UnitNodes) (handle : ℕ) → found_at (unit_list nodes) handle ≡ slice_get nodes handle
found-is nodes handle = found-by (nat_lt handle 0) _ _ (le-ltb handle 0 (omega arith)) (ap (slice_get nodes) (omega arith))

child-is : (nodes : UnitNodes) (parent place : ℕ) → child_at (unit_list nodes) parent place ≡ slice_get (node_at nodes parent).children place
child-is nodes parent place =
    ap (option_and_then (λ (node : TreeNode (List ℕ)). slice_get node.children place)) (found-is nodes parent)
    ∙ child-by (slice_get nodes parent) place
    ∙ ap (λ (node : TreeNode (List ℕ)). slice_get node.children place) (unwrap_or-slice_get nodes parent no_node)

child-at : (nodes : UnitNodes) (parent place : ℕ) (child : ℕ × ℕ) → HasChild nodes parent place child → IsChildAt (unit_list nodes) parent place child.0
child-at nodes parent place child has = (child.1, child-is nodes parent place ∙ has)

-- a parent is one of the nodes
parent-within : (nodes : UnitNodes) (parent place : ℕ) (child : ℕ × ℕ) → HasChild nodes parent place child → parent < length nodes
parent-within nodes parent place child has =
    elim (slice_get_cases nodes parent).1 [
      | inl within ↦ within.1
      | inr past ↦ absurd (none-some child (ap (λ (node : TreeNode (List ℕ)). slice_get node.children place) (sym (sym (unwrap_or-slice_get nodes parent no_node) ∙ ap (λ found. unwrap_or found no_node) past.1)) ∙ has))
    ]

-- and stands behind its children
child-before :
    (nodes : UnitNodes) → IsLaidUnit nodes → (parent place : ℕ) (child : ℕ × ℕ) → HasChild nodes parent place child → child.0 < parent
child-before nodes unit parent place child has =
    let is : slice_get nodes (parent - 0) ≡ Some (node_at nodes parent) =
    ap (slice_get nodes) (omega arith) ∙ slice_get-get_or nodes parent no_node (parent-within nodes parent place child has) in
    (subst (λ (c : ℕ × ℕ). (0 ≤ c.0) × (c.0 < parent)) (get_or_from_slice_get (node_at nodes parent).children place child child has)
    (All-get_or (λ (c : ℕ × ℕ). (0 ≤ c.0) × (c.0 < parent)) (node_at nodes parent).children place child
    (slice_get_within (node_at nodes parent).children place child has) (unit.ordered parent (node_at nodes parent) (omega arith, is)))).1

-- Two lists of surroundings

-- a part stands in the same where the nodes behind it do
same-part :
    (nodes : UnitNodes) (surroundings others : List Surrounding) → IsLaidUnit nodes → AreSurroundings nodes surroundings
    → AreSurroundings nodes others → (handle : ℕ) → HasOneParent (unit_list nodes) handle
    → ((parent : ℕ) → handle < parent → parent < length nodes → slice_get surroundings parent ≡ slice_get others parent)
    → slice_get surroundings handle ≡ slice_get others handle
same-part nodes surroundings others unit are also handle one same =
    let parent = one.0 in
    let place = one.1 in
    let child : ℕ × ℕ = (handle, one.2.0) in
    let has : HasChild nodes parent place child = sym (child-is nodes parent place) ∙ one.2.1 in
    let inside = parent-within nodes parent place child has in
    are.parts parent place child has
    ∙ ap (λ surrounding. Some (asked (kind_at nodes parent) parent place (role_of child.1) surrounding))
    (get_or_from_slice_get surroundings parent _ _
    (same parent (child-before nodes unit parent place child has) inside
    ∙ slice_get-get_or others parent (of_unit (length others)) (omega (arith, inside, also.all))))
    ∙ sym (also.parts parent place child has)

-- all nodes do, from the last one to the first
same-at :
    (nodes : UnitNodes) (surroundings others : List Surrounding) → IsLaidUnit nodes → AreSurroundings nodes surroundings
    → AreSurroundings nodes others → (count handle : ℕ) → handle < length nodes → length nodes ≤ handle + count
    → slice_get surroundings handle ≡ slice_get others handle
same-at nodes surroundings others unit are also zero handle within far = absurd (omega (arith, within, far))
same-at nodes surroundings others unit are also (suc count) handle within far =
    elim (last-or-part handle (length nodes) within) [
      | inl last ↦
          ap (slice_get surroundings) last ∙ are.unit (omega (arith, within)) ∙ sym (also.unit (omega (arith, within)))
          ∙ ap (slice_get others) (sym last)
      | inr part ↦
          same-part nodes surroundings others unit are also handle (unit.laid.parents handle (omega arith) (omega (arith, part)))
          (λ parent behind inside. same-at nodes surroundings others unit are also count parent inside (omega (arith, far, behind)))
    ]

pub surroundings_are_unique : SurroundingsAreUnique
surroundings_are_unique nodes surroundings others unit are also = same_lists surroundings others (λ handle.
    elim (nat_split handle (length nodes)) [
      | inl within ↦ same-at nodes surroundings others unit are also (length nodes) handle within (omega arith)
      | inr past ↦
          slice_get_past surroundings handle (omega (arith, past, are.all)) ∙ sym (slice_get_past others handle (omega (arith, past, also.all)))
    ])

-- The list that is found

-- what is found among children is one of them
among-is :
    (handle parent place : ℕ) (children : List (ℕ × ℕ)) (standing : Standing) → standing_among handle parent place children ≡ Some standing
    → (standing.parent ≡ parent) × (place ≤ standing.place) × (slice_get children (standing.place - place) ≡ Some (handle, standing.tag))
among-is handle parent place [] standing is = absurd (none-some standing is)
among-is handle parent place (child ∷ children) standing is =
    elim (eqb_tells child.0 handle) [
      | inl here ↦
          let one : record { parent = parent; place = place; tag = child.1 } ≡ standing = same_Some _ standing (sym (chosen-then (nat_eq child.0 handle) _ _ here.0) ∙ is) in
          let at : place ≡ standing.place = ap (λ (s : Standing). s.place) one in (
            ap (λ (s : Standing). s.parent) (sym one),
            omega (arith, at),
            ap (slice_get (child ∷ children)) {x = standing.place - place} {y = 0} (omega (arith, at)) ∙ ap₂ (λ (h tag : ℕ). Some (h, tag)) here.1 (ap (λ (s : Standing). s.tag) one),
          )
      | inr other ↦
          let later = among-is handle parent (place + 1) children standing (sym (chosen-else (nat_eq child.0 handle) _ _ other.0) ∙ is) in
          (later.0, omega (arith, later.1), ap (slice_get (child ∷ children)) {x = standing.place - place} {y = suc (standing.place - (place + 1))} (omega (arith, later.1)) ∙ later.2)
    ]

-- an element of a list is the first one, or one behind it
first-or-later : {X : Type 0} (x : X) (xs : List X) (k : ℕ) (y : X) → slice_get (x ∷ xs) k ≡ Some y → (x ≡ y) ⊎ (slice_get xs (k - 1) ≡ Some y)
first-or-later x xs zero y is = inl (same_Some x y is)
first-or-later x xs (suc k) y is = inr (ap (slice_get xs) {x = suc k - 1} {y = k} (omega arith) ∙ is)

-- and what is among them is found
among-found :
    (handle parent place : ℕ) (children : List (ℕ × ℕ)) (k tag : ℕ) → slice_get children k ≡ Some (handle, tag)
    → standing_among handle parent place children ≡ None → ⊥
among-found handle parent place [] k tag has none = none-some (handle, tag) has
among-found handle parent place (child ∷ children) k tag has none =
    elim (eqb_tells child.0 handle) [
      | inl here ↦ none-some _ (sym none ∙ chosen-then (nat_eq child.0 handle) _ _ here.0)
      | inr other ↦
          elim (first-or-later child children k (handle, tag) has) [
            | inl first ↦ other.1 (ap (λ (c : ℕ × ℕ). c.0) first)
            | inr later ↦
                among-found handle parent (place + 1) children (k - 1) tag later
                (sym (chosen-else (nat_eq child.0 handle) _ _ other.0) ∙ none)
          ]
    ]

-- among nodes
in-by :
    (handle parent : ℕ) (node : TreeNode (List ℕ)) (nodes : UnitNodes) (standing : Standing) (found : Option Standing)
    → standing_among handle parent 0 node.children ≡ found → first_standing found (standing_in handle (parent + 1) nodes) ≡ Some standing
    → (standing_in handle (parent + 1) nodes ≡ Some standing
    → (parent + 1 ≤ standing.parent)
    × (slice_get (get_or nodes (standing.parent - (parent + 1)) no_node).children standing.place ≡ Some (handle, standing.tag)))
    → (parent ≤ standing.parent)
    × (slice_get (get_or (node ∷ nodes) (standing.parent - parent) no_node).children standing.place ≡ Some (handle, standing.tag))
in-by handle parent node nodes standing None among is behind =
    let later = behind is in (
      omega (arith, later.0),
      ap (λ k. slice_get (get_or (node ∷ nodes) k no_node).children standing.place)
          {x = standing.parent - parent} {y = suc (standing.parent - (parent + 1))} (omega (arith, later.0)) ∙ later.1,
    )
in-by handle parent node nodes standing (Some other) among is behind =
    let here = among-is handle parent 0 node.children standing (among ∙ is) in (
      omega (arith, here.0),
      ap (λ k. slice_get (get_or (node ∷ nodes) k no_node).children standing.place) {x = standing.parent - parent} {y = 0} (omega (arith, here.0))
          ∙ ap (slice_get node.children) {x = standing.place} {y = standing.place - 0} (omega arith) ∙ here.2,
    )

in-is :
    (handle parent : ℕ) (nodes : UnitNodes) (standing : Standing) → standing_in handle parent nodes ≡ Some standing
    → (parent ≤ standing.parent) × (slice_get (get_or nodes (standing.parent - parent) no_node).children standing.place ≡ Some (handle, standing.tag))
in-is handle parent [] standing is = absurd (none-some standing is)
in-is handle parent (node ∷ nodes) standing is =
    in-by handle parent node nodes standing (standing_among handle parent 0 node.children) refl is (in-is handle (parent + 1) nodes standing)

first-none : (one other : Option Standing) → first_standing one other ≡ None → (one ≡ None) × (other ≡ None)
first-none None other none = (refl, none)
first-none (Some standing) other none = absurd (none-some standing (sym none))

in-found :
    (handle parent : ℕ) (nodes : UnitNodes) (above place tag : ℕ)
    → slice_get (get_or nodes above no_node).children place ≡ Some (handle, tag) → standing_in handle parent nodes ≡ None → ⊥
in-found handle parent [] above place tag has none = none-some (handle, tag) has
in-found handle parent (node ∷ nodes) zero place tag has none =
    among-found handle parent 0 node.children place tag has (first-none (standing_among handle parent 0 node.children) _ none).0
in-found handle parent (node ∷ nodes) (suc above) place tag has none =
    in-found handle (parent + 1) nodes above place tag has (first-none (standing_among handle parent 0 node.children) _ none).1

-- a node that is found to stand somewhere stands there
found-child : (nodes : UnitNodes) (handle : ℕ) (standing : Standing) → standing_in handle 0 nodes ≡ Some standing
    → HasChild nodes standing.parent standing.place (handle, standing.tag)
found-child nodes handle standing is =
    ap (λ parent. slice_get (node_at nodes parent).children standing.place) {x = standing.parent} {y = standing.parent - 0} (omega arith)
    ∙ (in-is handle 0 nodes standing is).1

-- and the one place where a part stands is found
part-found :
    (nodes : UnitNodes) → IsLaidUnit nodes → (parent place : ℕ) (child : ℕ × ℕ) → HasChild nodes parent place child
    → (found : Option Standing) → standing_in child.0 0 nodes ≡ found → found ≡ Some (record { parent = parent; place = place; tag = child.1 })
part-found nodes unit parent place child has None is = absurd (in-found child.0 0 nodes parent place child.1 has is)
part-found nodes unit parent place child has (Some standing) is =
    let above = child-before nodes unit parent place child has in
    let inside = parent-within nodes parent place child has in
    let there = found-child nodes child.0 standing is in
    let one = unit.laid.parents child.0 (omega arith) (omega (arith, above, inside)) in
    let this = one.3 parent place (child-at nodes parent place child has) in
    let that = one.3 standing.parent standing.place (child-at nodes standing.parent standing.place (child.0, standing.tag) there) in
    let parents : standing.parent ≡ parent = that.0 ∙ sym this.0 in
    let places : standing.place ≡ place = that.1 ∙ sym this.1 in
    let same : (child.0, standing.tag) ≡ child =
    same_Some (child.0, standing.tag) child
    (sym there ∙ ap₂ (λ p q. slice_get (node_at nodes p).children q) parents places ∙ has) in
    λ i. Some (record { parent = parents i; place = places i; tag = (same i).1 })

last-length : (nodes : UnitNodes) (count : ℕ) → length (last_surroundings nodes count) ≡ count
last-length nodes zero = refl
last-length nodes (suc count) = ap suc (last-length nodes count)

-- what the last nodes stand in is at the end of what more of them stand in
tail-at :
    (nodes : UnitNodes) (more count all k j : ℕ) → all ≡ more + count → j ≡ more + k
    → slice_get (last_surroundings nodes all) j ≡ slice_get (last_surroundings nodes count) k
tail-at nodes zero count all k j whole at = ap₂ (λ n i. slice_get (last_surroundings nodes n) i) {x = all} {y = count} (omega (arith, whole)) (omega (arith, at))
tail-at nodes (suc more) count zero k j whole at = absurd (omega (arith, whole))
tail-at nodes (suc more) count (suc all) k zero whole at = absurd (omega (arith, at))
tail-at nodes (suc more) count (suc all) k (suc j) whole at = tail-at nodes more count all k j (omega (arith, whole)) (omega (arith, at))

-- each node stands in what the nodes behind it say
stands-in :
    (nodes : UnitNodes) (handle behind : ℕ) → length nodes ≡ handle + suc behind
    → slice_get (surroundings_of nodes) handle
    ≡ Some (surrounding_of nodes handle (last_surroundings nodes behind) (standing_in handle 0 nodes))
stands-in nodes handle behind whole =
    tail-at nodes handle (suc behind) (length nodes) 0 handle whole (omega arith)
    ∙ ap (λ h. Some (surrounding_of nodes h (last_surroundings nodes behind) (standing_in h 0 nodes)))
    {x = length nodes - suc behind} {y = handle} (omega (arith, whole))

-- the last node is a part of none
last-alone : (nodes : UnitNodes) → IsLaidUnit nodes → (last : ℕ) → length nodes ≡ last + 1 → (found : Option Standing)
    → standing_in last 0 nodes ≡ found → found ≡ None
last-alone nodes unit last whole None is = refl
last-alone nodes unit last whole (Some standing) is =
    let there = found-child nodes last standing is in
    absurd (omega (
      arith,
      whole,
      child-before nodes unit standing.parent standing.place (last, standing.tag) there,
      parent-within nodes standing.parent standing.place (last, standing.tag) there,
    ))

unit-found : (nodes : UnitNodes) → IsLaidUnit nodes → 0 < length nodes → slice_get (surroundings_of nodes) (length nodes - 1) ≡ Some (of_unit (length nodes - 1))
unit-found nodes unit some =
    stands-in nodes (length nodes - 1) 0 (omega (arith, some))
    ∙ ap (λ standing. Some (surrounding_of nodes (length nodes - 1) [] standing))
    (last-alone nodes unit (length nodes - 1) (omega (arith, some)) _ refl)

parts-found :
    (nodes : UnitNodes) → IsLaidUnit nodes → (parent place : ℕ) (child : ℕ × ℕ) → HasChild nodes parent place child
    → slice_get (surroundings_of nodes) child.0
    ≡ Some (asked (kind_at nodes parent) parent place (role_of child.1) (surrounding_at (surroundings_of nodes) parent))
parts-found nodes unit parent place child has =
    let above = child-before nodes unit parent place child has in
    let inside = parent-within nodes parent place child has in
    let behind = length nodes - (child.0 + 1) in
    let whole : length nodes ≡ child.0 + 1 + behind = omega (arith, above, inside) in
    stands-in nodes child.0 behind (omega (arith, above, inside))
    ∙ ap (λ standing. Some (surrounding_of nodes child.0 (last_surroundings nodes behind) standing))
    (part-found nodes unit parent place child has _ refl)
    ∙ ap (λ surrounding. Some (asked (kind_at nodes parent) parent place (role_of child.1) surrounding))
    (get_or_from_slice_get (last_surroundings nodes behind) (parent - (child.0 + 1)) _ _
    (sym (tail-at nodes (child.0 + 1) behind (length nodes) (parent - (child.0 + 1)) parent whole (omega (arith, above)))
    ∙ slice_get-get_or (surroundings_of nodes) parent (of_unit (length (surroundings_of nodes))) (omega (arith, inside, last-length nodes (length nodes)))))

pub surroundings_are_found : SurroundingsAreFound
surroundings_are_found nodes unit = record {
  all = last-length nodes (length nodes);
  unit = unit-found nodes unit;
  parts = parts-found nodes unit;
}
