-- Enumerators that are named.
use Rattle.std.specs.Prelude.{◌≡◌, ℕ, List, Option, Some, None, option_map}
use Rattle.vocabulary.specs.declared.int_kind.IntKind.{IntKind}
use Rattle.meaning_typing.specs.Enumerations as meaning
use Rattle.meaning_typing.specs.EnumRows.{SeenEnumerator, constant_value, values_of}
use Rattle.meaning_typing.specs.Facts.{Fact, Unknown}
use Rattle.enum_rows.specs.declared.kept.Values.{Values}
use Rattle.enum_rows.specs.declared.integers.RestrictedType.{RestrictedType}
use Rattle.enum_rows.specs.declared.names.Sharing.{Sharing}
use Rattle.enum_rows.specs.declared.names.Sharing.TheVariants as sharings
use Rattle.enum_rows.specs.declared.values.EnumeratorValue.{EnumeratorValue}
use Rattle.enum_rows.specs.Enumerations.{shared}
use Rattle.enum_rows.specs.Integers.{integer_of_restricted, restricted_seen, type_of_integer}

-- the type that all share, if they do, where each is known
abbrev pub sharing_seen : Sharing → Option (Option (IntKind × ℕ))
sharing_seen sharings.Unknown = None
sharing_seen sharings.Own = Some None
sharing_seen (sharings.Shared restricted) = Some (Some (restricted_seen restricted))

abbrev pub sharing_of : Option RestrictedType → Sharing
sharing_of None = sharings.Own
sharing_of (Some restricted) = sharings.Shared restricted

abbrev pub sharing_in : Option Values → Sharing
sharing_in None = sharings.Unknown
sharing_in (Some values) = sharing_of (shared values)

-- it is what the enumerators say
abbrev pub IsSharing : Sharing → List SeenEnumerator → Type 0
IsSharing sharing list = sharing_seen sharing ≡ option_map meaning.shared_identity (values_of list)

-- What is known of an enumerator behind its enumeration

abbrev pub fact_of_value : EnumeratorValue → Fact
fact_of_value value = constant_value (type_of_integer value.of) value.number

abbrev pub fact_with : Sharing → EnumeratorValue → Fact
fact_with sharings.Unknown value = Unknown
fact_with sharings.Own value = fact_of_value value
fact_with (sharings.Shared restricted) value = constant_value (type_of_integer (integer_of_restricted restricted)) value.number

abbrev pub fact_shared : Sharing → Option EnumeratorValue → Fact
fact_shared sharing None = Unknown
fact_shared sharing (Some value) = fact_with sharing value
