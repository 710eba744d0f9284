-- What holds of objects.
use Rattle.std.specs.Prelude.{◌≡◌, ℕ, ◌<◌, ◌≤◌, true, List, ◌++◌, length}
use Rattle.meaning_typing.specs.Units.{UnitNodes}
use Rattle.meaning_typing.specs.Surroundings.{Surrounding}
use Rattle.meaning_typing.specs.Facts.{Fact, Declared, DeclaredFact, fact_at}
use Rattle.meaning_objects.specs.Objects.{object_of}
use Rattle.meaning_objects.specs.Definitions.{definition_of}
use Rattle.meaning_objects.specs.Carried.{contexts_of_object, is_noreturn}

-- two declarations of one name with linkage are of one object
abbrev pub ObjectsAreShared : Type 0
ObjectsAreShared =
    (facts : List Fact) (declarator other : ℕ) (declaration another : DeclaredFact)
    → fact_at facts declarator ≡ Declared declaration → fact_at facts other ≡ Declared another
    → declaration.has_linkage ≡ true → another.has_linkage ≡ true → declaration.name ≡ another.name
    → object_of facts declarator ≡ object_of facts other

-- an object is its own object, and is no later than its declarations
abbrev pub ObjectsAreTheirOwn : Type 0
ObjectsAreTheirOwn = (facts : List Fact) (declarator : ℕ) → object_of facts (object_of facts declarator) ≡ object_of facts declarator

abbrev pub ObjectsComeFirst : Type 0
ObjectsComeFirst = (facts : List Fact) (declarator : ℕ) → object_of facts declarator ≤ declarator

-- what is declared later changes no object
abbrev pub ObjectsStay : Type 0
ObjectsStay =
    (facts more : List Fact) (declarator : ℕ) → declarator < length facts → object_of (facts ++ more) declarator ≡ object_of facts declarator

-- what is asked of an object may be asked of each of its declarations
abbrev pub DefinitionsAreShared : Type 0
DefinitionsAreShared =
    (nodes : UnitNodes) (surroundings : List Surrounding) (facts : List Fact) (declarator : ℕ)
    → definition_of nodes surroundings facts (object_of facts declarator) ≡ definition_of nodes surroundings facts declarator

abbrev pub ContextsAreShared : Type 0
ContextsAreShared =
    (nodes : UnitNodes) (surroundings : List Surrounding) (facts : List Fact) (declarator : ℕ)
    → contexts_of_object nodes surroundings facts (object_of facts declarator) ≡ contexts_of_object nodes surroundings facts declarator

abbrev pub NoreturnIsShared : Type 0
NoreturnIsShared =
    (nodes : UnitNodes) (surroundings : List Surrounding) (facts : List Fact) (declarator : ℕ)
    → is_noreturn nodes surroundings facts (object_of facts declarator) ≡ is_noreturn nodes surroundings facts declarator
