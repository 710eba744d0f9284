-- What names say of enumerators.
use Rattle.std.proofs.Common.{◌≡◌, ℕ, List, Option, Some, None, option_map, refl, sym, ap, ◌∙◌}
use Rattle.std.proofs.lemmas.Option.{none-some, same_Some}
use Rattle.vocabulary.specs.declared.int_kind.IntKind.{IntKind}
use Rattle.meaning_typing.specs.Enumerations as meaning
use Rattle.meaning_typing.specs.EnumRows.{SeenEnumerator, constant_value, named_value, values_of}
use Rattle.meaning_typing.specs.Facts.{Fact}
use Rattle.enum_rows.specs.declared.enumeration.Enumerators.{Enumerators}
use Rattle.enum_rows.specs.declared.kept.Values.{Values}
use Rattle.enum_rows.specs.declared.integers.RestrictedType.{RestrictedType}
use Rattle.enum_rows.specs.declared.names.Sharing.{Sharing}
use Rattle.enum_rows.specs.declared.names.Sharing.TheVariants as sharings
use Rattle.enum_rows.specs.declared.values.EnumeratorValue.{EnumeratorValue}
use Rattle.enum_rows.specs.Enumerations.{StandsFor, StandsForKnown, shared}
use Rattle.enum_rows.specs.Integers.{restricted_seen}
use Rattle.enum_rows.specs.Names.{IsSharing, fact_shared, sharing_in, sharing_of, sharing_seen}
use Rattle.enum_rows.specs.Values.{value_seen}
use Rattle.enum_rows.proofs.KeptLemmas.{shared_told}

-- What an enumeration says

-- by the restricted type that all share, if they do
sharing-of : (restricted : Option RestrictedType) → sharing_seen (sharing_of restricted) ≡ Some (option_map restricted_seen restricted)
sharing-of None = refl
sharing-of (Some restricted) = refl

sharing-known : (values : Option Values) (list : Option (List meaning.EnumeratorValue)) → StandsForKnown values list
    → sharing_seen (sharing_in values) ≡ option_map meaning.shared_identity list
sharing-known None None stands = refl
sharing-known (Some values) (Some list) stands = sharing-of (shared values) ∙ ap Some (shared_told values list stands)
sharing-known None (Some list) stands = absurd stands
sharing-known (Some values) None stands = absurd stands

pub sharing_told : (kept : Enumerators) (list : List SeenEnumerator) → StandsFor kept list → IsSharing (sharing_in kept.values) list
sharing_told kept list stands = sharing-known kept.values (values_of list) stands.values

-- What a name says

-- an enumerator among those that share this
typed-with : EnumeratorValue → (shared : Option (IntKind × ℕ)) → Fact
typed-with value shared = constant_value (meaning.typed_enumerator shared (value_seen value)).0 (meaning.typed_enumerator shared (value_seen value)).1

-- it is what the definition says of a name behind the enumeration
pub name_told : (sharing : Sharing) (values : Option (List meaning.EnumeratorValue)) (value : Option EnumeratorValue)
    → sharing_seen sharing ≡ option_map meaning.shared_identity values → fact_shared sharing value ≡ named_value values (option_map value_seen value)
unfolding typed-with
name_told sharing None None is = refl
name_told sharing (Some values) None is = refl
name_told sharings.Unknown None (Some value) is = refl
name_told sharings.Unknown (Some values) (Some value) is = absurd (none-some (meaning.shared_identity values) is)
name_told sharings.Own None (Some value) is = absurd (none-some None (sym is))
name_told sharings.Own (Some values) (Some value) is = ap (typed-with value) (same_Some None (meaning.shared_identity values) is)
name_told (sharings.Shared restricted) None (Some value) is = absurd (none-some (Some (restricted_seen restricted)) (sym is))
name_told (sharings.Shared restricted) (Some values) (Some value) is =
    ap (typed-with value) (same_Some (Some (restricted_seen restricted)) (meaning.shared_identity values) is)
