-- What holds of names.
use Rattle.std.specs.Prelude.{◌≡◌, ℕ, ◌<◌, List, Option, Some, None}
use Rattle.meaning_types.specs.Types.{Space, NoSpace, NumberedSpace, NamedSpace, TypeTree, Typed, BaseTree, VoidTree, IntegerTree, RestrictedTree, PointerTree, ArrayTree, FunctionTree, AggregateTree, TypeTrees, NoTypes, MoreTypes}
use Rattle.meaning_names.specs.Spelled.{spelled_type}
use Rattle.meaning_names.specs.TypeNames.{first_given}

-- a name that is told is given by one of the nodes, and no node before it gives one
abbrev pub FirstNamesAreTold : Type 0
FirstNamesAreTold =
    (given : ℕ → Option (List ℕ)) (count : ℕ) (name : List ℕ) → first_given given count ≡ Some name
    → (handle : ℕ) × (handle < count) × (given handle ≡ Some name) × ((earlier : ℕ) → earlier < handle → given earlier ≡ None)

-- where none is told no node gives one
abbrev pub NamelessIsNamedNowhere : Type 0
NamelessIsNamedNowhere =
    (given : ℕ → Option (List ℕ)) (count : ℕ) → first_given given count ≡ None → (handle : ℕ) → handle < count → given handle ≡ None

-- no space in it has a name
abbrev pub IsNotNamed : Space → Type 0
IsNotNamed NoSpace = Unit {0}
IsNotNamed (NumberedSpace number) = Unit {0}
IsNotNamed (NamedSpace name) = ⊥

abbrev mutual
  pub NamesNoSpace : TypeTree → Type 0
  NamesNoSpace (Typed base qualifiers flags) = BaseNamesNoSpace base × IsNotNamed flags.space

  pub BaseNamesNoSpace : BaseTree → Type 0
  BaseNamesNoSpace VoidTree = Unit {0}
  BaseNamesNoSpace (IntegerTree kind) = Unit {0}
  BaseNamesNoSpace (RestrictedTree kind identity) = Unit {0}
  BaseNamesNoSpace (PointerTree target) = NamesNoSpace target
  BaseNamesNoSpace (ArrayTree element count) = NamesNoSpace element
  BaseNamesNoSpace (FunctionTree result parameters variadic) = NamesNoSpace result × TypesNameNoSpace parameters
  BaseNamesNoSpace (AggregateTree number is_union) = Unit {0}

  pub TypesNameNoSpace : TypeTrees → Type 0
  TypesNameNoSpace NoTypes = Unit {0}
  TypesNameNoSpace (MoreTypes type_ types) = NamesNoSpace type_ × TypesNameNoSpace types

-- a type in which no space has a name is spelled as it is
abbrev pub TypesWithoutNamedSpacesStay : Type 0
TypesWithoutNamedSpacesStay = (spellings : List (List ℕ)) (type_ : TypeTree) → NamesNoSpace type_ → spelled_type spellings type_ ≡ type_
