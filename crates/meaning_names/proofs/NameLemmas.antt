-- The first name, and types whose spaces have none.
use Rattle.std.proofs.Common.{◌≡◌, ℕ, zero, suc, ◌<◌, ◌⊎◌, inl, inr, List, Option, Some, None, refl, sym, ap, ap₂, ◌∙◌, arith}
use Rattle.std.specs.Option.{option_or}
use Rattle.std.proofs.lemmas.Option.{none-some}
use Rattle.meaning_types.specs.Types.{Space, NoSpace, NumberedSpace, NamedSpace, Flags, Typed, BaseTree, VoidTree, IntegerTree, RestrictedTree, PointerTree, ArrayTree, FunctionTree, AggregateTree, TypeTrees, NoTypes, MoreTypes}
use Rattle.meaning_names.specs.Spelled.{spelled_space, spelled_flags, spelled_base, spelled_types}
use Rattle.meaning_names.specs.TypeNames.{first_given}
use Rattle.meaning_names.specs.Laws.{FirstNamesAreTold, NamelessIsNamedNowhere, IsNotNamed, BaseNamesNoSpace, TypesNameNoSpace, TypesWithoutNamedSpacesStay}

-- The first

earlier-or-last : (count all : ℕ) → count < suc all → (count < all) ⊎ (count ≡ all)
earlier-or-last count all within = grind arith

-- where neither is, there is none
none-of-both : (found next : Option (List ℕ)) → option_or found next ≡ None → (found ≡ None) × (next ≡ None)
none-of-both None next none = (refl, none)
none-of-both (Some name) next none = absurd (none-some name (sym none))

pub nameless_is_named_nowhere : NamelessIsNamedNowhere
nameless_is_named_nowhere given zero none handle within = absurd (omega (arith, within))
nameless_is_named_nowhere given (suc count) none handle within =
    let both = none-of-both (first_given given count) (given count) none in
    elim (earlier-or-last handle count within) [
      | inl earlier ↦ nameless_is_named_nowhere given count both.0 handle earlier
      | inr last ↦ ap given last ∙ both.1
    ]

-- what is told of a name that one of the first so many gives
abbrev IsFirst : (ℕ → Option (List ℕ)) → ℕ → List ℕ → Type 0
IsFirst given count name =
    (handle : ℕ) × (handle < count) × (given handle ≡ Some name) × ((earlier : ℕ) → earlier < handle → given earlier ≡ None)

-- by what those before the last one give
first-by :
    (given : ℕ → Option (List ℕ)) (count : ℕ) (name : List ℕ) (found : Option (List ℕ)) → first_given given count ≡ found
    → (found ≡ Some name → IsFirst given count name) → option_or found (given count) ≡ Some name → IsFirst given (suc count) name
first-by given count name None none before some = (count, omega arith, some, nameless_is_named_nowhere given count none)
first-by given count name (Some other) is before some =
    let first = before some in
    (first.0, omega (arith, first.1), first.2, first.3)

pub first_names_are_told : FirstNamesAreTold
first_names_are_told given zero name some = absurd (none-some name some)
first_names_are_told given (suc count) name some =
    first-by given count name (first_given given count) refl (first_names_are_told given count name) some

-- Types

space-stays : (spellings : List (List ℕ)) (space : Space) → IsNotNamed space → spelled_space spellings space ≡ space
space-stays spellings NoSpace unnamed = refl
space-stays spellings (NumberedSpace number) unnamed = refl
space-stays spellings (NamedSpace name) unnamed = absurd unnamed

flags-stay : (spellings : List (List ℕ)) (flags : Flags) → IsNotNamed flags.space → spelled_flags spellings flags ≡ flags
flags-stay spellings flags unnamed = ap (λ (space : Space). record flags { space = space }) (space-stays spellings flags.space unnamed)

mutual
  pub type-stays : TypesWithoutNamedSpacesStay
  type-stays spellings (Typed base qualifiers flags) unnamed =
      ap₂ (λ (b : BaseTree) (f : Flags). Typed b qualifiers f) (base-stays spellings base unnamed.0) (flags-stay spellings flags unnamed.1)

  base-stays : (spellings : List (List ℕ)) (base : BaseTree) → BaseNamesNoSpace base → spelled_base spellings base ≡ base
  base-stays spellings VoidTree unnamed = refl
  base-stays spellings (IntegerTree kind) unnamed = refl
  base-stays spellings (RestrictedTree kind identity) unnamed = refl
  base-stays spellings (PointerTree target) unnamed = ap PointerTree (type-stays spellings target unnamed)
  base-stays spellings (ArrayTree element count) unnamed = ap (λ e. ArrayTree e count) (type-stays spellings element unnamed)
  base-stays spellings (FunctionTree result parameters variadic) unnamed =
      ap₂ (λ r ps. FunctionTree r ps variadic) (type-stays spellings result unnamed.0) (types-stay spellings parameters unnamed.1)
  base-stays spellings (AggregateTree number is_union) unnamed = refl

  types-stay : (spellings : List (List ℕ)) (types : TypeTrees) → TypesNameNoSpace types → spelled_types spellings types ≡ types
  types-stay spellings NoTypes unnamed = refl
  types-stay spellings (MoreTypes type_ types) unnamed = ap₂ MoreTypes (type-stays spellings type_ unnamed.0) (types-stay spellings types unnamed.1)
