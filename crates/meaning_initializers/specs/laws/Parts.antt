-- Each leaf is for a part of the object: its path leads there, and it has the type of that part.
use Rattle.std.specs.Prelude.{◌≡◌, ℕ, Bool, true, List, [], ◌∷◌, Some, All, slice_get}
use Rattle.meaning_types.specs.Types.{TypeTree, Typed, ArrayTree, AggregateTree}
use Rattle.meaning_layout.specs.Members.{DeclaredMember}
use Rattle.meaning_initializers.specs.Items.{Initializer}
use Rattle.meaning_initializers.specs.Parts.{Aggregates, Part, bounded, is_within}
use Rattle.meaning_initializers.specs.Filling.{Outcome, Initializes}

-- an element, or a member
abbrev pub IsPartOf : Aggregates → TypeTree → Part → Type 0
IsPartOf aggregates (Typed (ArrayTree element length) _ _) part = (is_within part.number length ≡ true) × (part.type_ ≡ element)
IsPartOf aggregates (Typed (AggregateTree number is_union) _ _) part =
    (member : DeclaredMember (List ℕ)) × (slice_get (aggregates.members number) part.number ≡ Some member) × (part.type_ ≡ bounded member.of)
IsPartOf aggregates (Typed base _ _) part = ⊥

-- from an object the numbers lead to a part of this type
abbrev pub LeadsTo : Aggregates → (object : TypeTree) → (path : List ℕ) → TypeTree → Type 0
LeadsTo aggregates object [] type_ = type_ ≡ object
LeadsTo aggregates object (number ∷ path) type_ =
    (part : Part) × (part.number ≡ number) × IsPartOf aggregates object part × LeadsTo aggregates part.type_ path type_

abbrev pub LeavesArePartsOfObjects : Type 0
LeavesArePartsOfObjects =
    (aggregates : Aggregates) (is_static : Bool) (object : TypeTree) (initializer : Initializer) (outcome : Outcome)
    → Initializes aggregates is_static object initializer outcome → All (λ leaf. LeadsTo aggregates object leaf.path leaf.type_) outcome.leaves
