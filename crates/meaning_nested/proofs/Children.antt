-- Children by their nodes, in a laid unit.
use Rattle.std.proofs.Common.{◌≡◌, ℕ, zero, suc, ◌-◌, ◌<◌, ◌≤◌, Bool, true, false, ◌||◌, ◌⊎◌, inl, inr, List, [], ◌∷◌, ◌++◌, length, map, drop, Option, Some, None, slice_get, get_or, unwrap_or, refl, sym, ap, subst, ◌∙◌, arith, append_assoc}
use Rattle.std.specs.List.{list_any}
use Rattle.std.proofs.lemmas.Option.{none-some, same_Some, slice_get_within, slice_get_cases, slice_get-get_or, get_or_from_slice_get, unwrap_or-slice_get}
use Rattle.std.proofs.lemmas.List.Elements.{All-get_or}
use Rattle.meaning_tree.specs.Nodes.{TreeNode}
use Rattle.meaning_typing.specs.Units.{UnitNodes, no_node, node_at, kind_at, children_at, children_from, child_at, unit_list}
use Rattle.meaning_typing.specs.laws.Surroundings.{IsLaidUnit}

-- a node has this child at some place
abbrev pub IsChild : UnitNodes → (parent child : ℕ) → Type 0
IsChild nodes parent child = (place : ℕ) × (tag : ℕ) × (slice_get (node_at nodes parent).children place ≡ Some (child, tag))

abbrev pub AreChildren : UnitNodes → (parent : ℕ) → (handles : List ℕ) → Type 0
AreChildren nodes parent [] = Unit {0}
AreChildren nodes parent (handle ∷ handles) = IsChild nodes parent handle × AreChildren nodes parent handles

module _ (nodes : UnitNodes) where
  -- All children

  stands-at : (front : List (ℕ × ℕ)) (child : ℕ × ℕ) (rest : List (ℕ × ℕ)) → slice_get (front ++ child ∷ rest) (length front) ≡ Some child
  stands-at [] child rest = refl
  stands-at (first ∷ front) child rest = stands-at front child rest

  are-behind : (parent : ℕ) (front rest : List (ℕ × ℕ)) → (node_at nodes parent).children ≡ front ++ rest → AreChildren nodes parent (map (λ child. child.0) rest)
  are-behind parent front [] same = tt
  are-behind parent front (child ∷ rest) same = (
    (length front, child.1, ap (λ children. slice_get children (length front)) same ∙ stands-at front child rest),
    are-behind parent (front ++ child ∷ []) rest (same ∙ sym (append_assoc front (child ∷ []) rest)),
  )

  pub are-children : (parent : ℕ) → AreChildren nodes parent (children_at nodes parent)
  are-children parent = are-behind parent [] (node_at nodes parent).children refl

  are-dropped : (parent count : ℕ) (handles : List ℕ) → AreChildren nodes parent handles → AreChildren nodes parent (drop count handles)
  are-dropped parent zero handles are = are
  are-dropped parent (suc count) [] are = are
  are-dropped parent (suc count) (handle ∷ handles) are = are-dropped parent count handles are.1

  pub are-children-from : (parent place : ℕ) → AreChildren nodes parent (children_from nodes parent place)
  are-children-from parent place = are-dropped parent place (children_at nodes parent) (are-children parent)

  passes-by : (parent : ℕ) (test : ℕ → Bool) (handle : ℕ) (handles : List ℕ) → IsChild nodes parent handle
      → (list_any test handles ≡ true → (other : ℕ) × IsChild nodes parent other × (test other ≡ true))
      → (passes : Bool) → test handle ≡ passes → (passes || list_any test handles) ≡ true → (other : ℕ) × IsChild nodes parent other × (test other ≡ true)
  passes-by parent test handle handles child later true same is = (handle, child, same)
  passes-by parent test handle handles child later false same is = later is

  -- one of them passes a test
  pub child-passes : (parent : ℕ) (test : ℕ → Bool) (handles : List ℕ) → AreChildren nodes parent handles → list_any test handles ≡ true
      → (handle : ℕ) × IsChild nodes parent handle × (test handle ≡ true)
  child-passes parent test [] are is = absurd (cc is)
  child-passes parent test (handle ∷ handles) are is = passes-by parent test handle handles are.0 (child-passes parent test handles are.1) (test handle) refl is

  -- Parents stand behind their children

  parent-cases : (parent place : ℕ) (child : ℕ × ℕ) → slice_get (node_at nodes parent).children place ≡ Some child → parent < length nodes
  parent-cases parent place child has =
      elim (slice_get_cases nodes parent).1 [
        | inl within ↦ within.1
        | inr past ↦ absurd (none-some child (ap (λ (node : TreeNode (List ℕ)). slice_get node.children place) (sym (sym (unwrap_or-slice_get nodes parent no_node) ∙ ap (λ found. unwrap_or found no_node) past.1)) ∙ has))
      ]

  pub parent-is : (parent child : ℕ) → IsChild nodes parent child → parent < length nodes
  parent-is parent child is = parent-cases parent is.0 (child, is.1) is.2

  pub child-before : IsLaidUnit nodes → (parent child : ℕ) → IsChild nodes parent child → child < parent
  child-before unit parent child is =
      let entry : ℕ × ℕ = (child, is.1) in
      let found : slice_get nodes (parent - 0) ≡ Some (node_at nodes parent) =
      ap (slice_get nodes) (omega arith) ∙ slice_get-get_or nodes parent no_node (parent-is parent child is) in
      (subst (λ (c : ℕ × ℕ). (0 ≤ c.0) × (c.0 < parent)) (get_or_from_slice_get (node_at nodes parent).children is.0 entry entry is.2)
      (All-get_or (λ (c : ℕ × ℕ). (0 ≤ c.0) × (c.0 < parent)) (node_at nodes parent).children is.0 entry
      (slice_get_within (node_at nodes parent).children is.0 entry is.2) (unit.ordered parent (node_at nodes parent) (omega arith, found)))).1

  -- the first child, if it has one itself
  first-by : (parent : ℕ) (handles : List ℕ) → AreChildren nodes parent handles → (child : ℕ) → get_or handles 0 (length nodes) < length nodes → IsChild nodes parent (get_or handles 0 (length nodes))
  first-by parent [] are child within = absurd (omega (arith, within))
  first-by parent (handle ∷ handles) are child within = are.0

  pub first-is : (parent child : ℕ) → IsChild nodes (child_at nodes parent 0) child → IsChild nodes parent (child_at nodes parent 0)
  first-is parent child is = first-by parent (children_at nodes parent) (are-children parent) child (parent-is (child_at nodes parent 0) child is)
