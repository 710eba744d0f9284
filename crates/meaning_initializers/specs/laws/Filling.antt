-- An initializer has one outcome.
use Rattle.std.specs.Prelude.{◌≡◌, ℕ, suc, ◌≤◌, Bool, Some, All}
use Rattle.meaning_types.specs.Types.{TypeTree, Typed, ArrayTree, AggregateTree}
use Rattle.meaning_initializers.specs.Items.{Initializer}
use Rattle.meaning_initializers.specs.Parts.{Aggregates}
use Rattle.meaning_initializers.specs.Filling.{Outcome, Initializes}
use Rattle.meaning_initializers.specs.plain.Filling.{initialized}

-- at most one
abbrev pub OutcomesAreUnique : Type 0
OutcomesAreUnique =
    (aggregates : Aggregates) (is_static : Bool) (object : TypeTree) (initializer : Initializer) (first second : Outcome)
    → Initializes aggregates is_static object initializer first → Initializes aggregates is_static object initializer second → first ≡ second

-- what the plain program answers is it
abbrev pub AnswersAreOutcomes : Type 0
AnswersAreOutcomes =
    (aggregates : Aggregates) (is_static : Bool) (depth : ℕ) (object : TypeTree) (initializer : Initializer) (outcome : Outcome)
    → initialized aggregates is_static depth object initializer ≡ Some outcome → Initializes aggregates is_static object initializer outcome

-- How high objects of a type are: an array is higher than its element, and a structure or a union has a height by its number.
abbrev pub height_of : (ℕ → ℕ) → TypeTree → ℕ
height_of heights (Typed (ArrayTree element length) _ _) = suc (height_of heights element)
height_of heights (Typed (AggregateTree number is_union) _ _) = suc (heights number)
height_of heights (Typed base _ _) = 0

-- a structure or a union is higher than its members, so none lies in itself
abbrev pub AreNested : Aggregates → (heights : ℕ → ℕ) → Type 0
AreNested aggregates heights = (number : ℕ) → All (λ member. height_of heights member.of ≤ heights number) (aggregates.members number)

-- then there is one
abbrev pub OutcomesExist : Type 0
OutcomesExist =
    (aggregates : Aggregates) (heights : ℕ → ℕ) → AreNested aggregates heights → (is_static : Bool) (object : TypeTree) (initializer : Initializer)
    → (outcome : Outcome) × Initializes aggregates is_static object initializer outcome
