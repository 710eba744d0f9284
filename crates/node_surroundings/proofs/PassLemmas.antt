-- The pass over the nodes of a unit: those from a node on have told their parts what these stand in.
use Rattle.std.proofs.Common.{◌≡◌, ℕ, ◌+◌, ◌-◌, ◌<◌, ◌≤◌, ◌⊎◌, inl, inr, List, Some, length, slice_get, unwrap_or, replicate, sym, ap, ap₂, subst, ◌∙◌, arith}
use Rattle.std.proofs.lemmas.Bool.{cases_lt}
use Rattle.std.proofs.lemmas.List.{length-replicate}
use Rattle.std.proofs.lemmas.Option.{none-some, slice_get_past, unwrap_or-slice_get}
use Rattle.vocabulary.specs.Roles.{role_of}
use Rattle.meaning_tree.specs.Nodes.{TreeNode}
use Rattle.meaning_typing.specs.Units.{UnitNodes, no_node, node_at, kind_at}
use Rattle.meaning_typing.specs.Surroundings.{Surrounding, asked, of_unit, surrounding_at}
use Rattle.node_surroundings.specs.Parts.{with_parts}
use Rattle.node_surroundings.proofs.ListLemmas.{slice_get-replicate}
use Rattle.node_surroundings.proofs.PartLemmas.{length-with_parts, with_parts-other, with_parts-told}

-- a node has this child at this place
abbrev pub HasChild : UnitNodes → (parent place : ℕ) → ℕ × ℕ → Type 0
HasChild nodes parent place child = slice_get (node_at nodes parent).children place ≡ Some child

-- each child stands before its parent, and is a child once
pub record EachIsPartOnce (nodes : UnitNodes) : Type 0 where
  pub before : (parent place : ℕ) (child : ℕ × ℕ) → HasChild nodes parent place child → child.0 < parent
  pub once :
      (parent place other elsewhere : ℕ) (child part : ℕ × ℕ) → HasChild nodes parent place child → HasChild nodes other elsewhere part
      → child.0 ≡ part.0 → (parent ≡ other) × (place ≡ elsewhere)

-- the nodes from the first one on have told their parts
pub record AreAsked (nodes : UnitNodes) (first : ℕ) (surroundings : List Surrounding) : Type 0 where
  pub all : length surroundings ≡ length nodes
  pub unit : 0 < length nodes → slice_get surroundings (length nodes - 1) ≡ Some (of_unit (length nodes - 1))
  pub parts : (handle place : ℕ) (child : ℕ × ℕ) → first ≤ handle → HasChild nodes handle place child
      → slice_get surroundings child.0 ≡ Some (asked (kind_at nodes handle) handle place (role_of child.1) (surrounding_at surroundings handle))

-- Nodes

-- behind the last node there are no children
no_child : (nodes : UnitNodes) (parent place : ℕ) (child : ℕ × ℕ) → length nodes ≤ parent → HasChild nodes parent place child → ⊥
no_child nodes parent place child past has =
    none-some child
    (ap (λ (node : TreeNode (List ℕ)). slice_get node.children place)
    (sym (sym (unwrap_or-slice_get nodes parent no_node) ∙ ap (λ found. unwrap_or found no_node) (slice_get_past nodes parent past)))
    ∙ has)

pub parent_within : (nodes : UnitNodes) (parent place : ℕ) (child : ℕ × ℕ) → HasChild nodes parent place child → parent < length nodes
parent_within nodes parent place child has =
    elim (cases_lt parent (length nodes)) [
      | inl within ↦ within
      | inr past ↦ absurd (no_child nodes parent place child past has)
    ]

-- lists that agree at a node
surrounding_at-same :
    (surroundings others : List Surrounding) (handle : ℕ) → length surroundings ≡ length others
    → slice_get surroundings handle ≡ slice_get others handle → surrounding_at surroundings handle ≡ surrounding_at others handle
surrounding_at-same surroundings others handle long same =
    sym (unwrap_or-slice_get surroundings handle (of_unit (length surroundings)))
    ∙ ap₂ (λ found count. unwrap_or found (of_unit count)) same long
    ∙ unwrap_or-slice_get others handle (of_unit (length others))

-- The pass

-- at first none has
pub none_asked : (nodes : UnitNodes) (count : ℕ) (surroundings : List Surrounding) → count ≡ length nodes
    → surroundings ≡ replicate count (of_unit (count - 1)) → AreAsked nodes count surroundings
none_asked nodes count surroundings whole is = record {
  all = ap length is ∙ length-replicate count (of_unit (count - 1)) ∙ whole;
  unit = λ some.
      ap (λ all. slice_get all (length nodes - 1)) is
      ∙ slice_get-replicate count (of_unit (count - 1)) (length nodes - 1) (omega (arith, some, whole))
      ∙ ap (λ (n : ℕ). Some (of_unit (n - 1))) whole;
  parts = λ handle place child past has. absurd (no_child nodes handle place child (omega (arith, past, whole)) has);
}

-- one more
module _ (nodes : UnitNodes) (each : EachIsPartOnce nodes) (surroundings : List Surrounding) (handle : ℕ) (within : handle < length nodes)
    (are : AreAsked nodes (handle + 1) surroundings) where
  abbrev told : List Surrounding
  told = with_parts (kind_at nodes handle) handle (surrounding_at surroundings handle) 0 (node_at nodes handle).children surroundings

  told-length : length told ≡ length surroundings
  told-length = length-with_parts (kind_at nodes handle) handle (surrounding_at surroundings handle) 0 (node_at nodes handle).children surroundings

  -- what is no part of the node stays
  told-other : (other : ℕ) → ((place : ℕ) (child : ℕ × ℕ) → HasChild nodes handle place child → child.0 ≡ other → ⊥)
      → slice_get told other ≡ slice_get surroundings other
  told-other other none =
      with_parts-other (kind_at nodes handle) handle (surrounding_at surroundings handle) 0 (node_at nodes handle).children surroundings other none

  -- so does the node, and what stands behind it
  told-behind : (other : ℕ) → handle ≤ other → slice_get told other ≡ slice_get surroundings other
  told-behind other behind = told-other other (λ place child has same. absurd (omega (arith, behind, each.before handle place child has, same)))

  told-at : (other : ℕ) → handle ≤ other → surrounding_at surroundings other ≡ surrounding_at told other
  told-at other behind = surrounding_at-same surroundings told other (sym told-length) (sym (told-behind other behind))

  -- its own parts are told
  own_part :
      (place : ℕ) (child : ℕ × ℕ) → HasChild nodes handle place child
      → slice_get told child.0 ≡ Some (asked (kind_at nodes handle) handle place (role_of child.1) (surrounding_at told handle))
  own_part place child has =
      with_parts-told (kind_at nodes handle) handle (surrounding_at surroundings handle) 0 (node_at nodes handle).children surroundings place child has
      (omega (arith, each.before handle place child has, within, are.all))
      (λ other part is same. (each.once handle other handle place part child is has same).1)
      ∙ ap₂ (λ at surrounding. Some (asked (kind_at nodes handle) handle at (role_of child.1) surrounding)) (omega arith)
      (told-at handle (omega arith))

  -- and those of the nodes behind it stay told
  later_part :
      (parent place : ℕ) (child : ℕ × ℕ) → handle + 1 ≤ parent → HasChild nodes parent place child
      → slice_get told child.0 ≡ Some (asked (kind_at nodes parent) parent place (role_of child.1) (surrounding_at told parent))
  later_part parent place child behind has =
      told-other child.0 (λ other part is same. absurd (omega (arith, behind, (each.once handle other parent place part child is has same).0)))
      ∙ are.parts parent place child behind has
      ∙ ap (λ surrounding. Some (asked (kind_at nodes parent) parent place (role_of child.1) surrounding)) (told-at parent (omega (arith, behind)))

  this_or_later : (parent : ℕ) → handle ≤ parent → (handle ≡ parent) ⊎ (handle + 1 ≤ parent)
  this_or_later parent behind = grind arith

  pub one_more_asked : AreAsked nodes handle told
  one_more_asked = record {
    all = told-length ∙ are.all;
    unit = λ some. told-behind (length nodes - 1) (omega (arith, within)) ∙ are.unit some;
    parts = λ parent place child behind has.
        elim (this_or_later parent behind) [
          | inl this ↦
              subst (λ (p : ℕ). HasChild nodes p place child
              → slice_get told child.0 ≡ Some (asked (kind_at nodes p) p place (role_of child.1) (surrounding_at told p))) this (own_part place child) has
          | inr later ↦ later_part parent place child later has
        ];
  }
