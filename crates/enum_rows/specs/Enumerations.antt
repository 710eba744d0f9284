-- The enumerators of an enumeration as they are read: what is kept of them stands for the list that was read so far.
use Rattle.std.specs.Prelude.{◌≡◌, ℕ, ℤ, pos, int_lt, Bool, ◌&&◌, ◌||◌, not, List, [], ◌∷◌, map, Option, Some, None, option_map, if◌then◌else◌}
use Rattle.std.specs.Option.{option_or}
use Rattle.vocabulary.specs.declared.error_kind.ErrorKind.TheVariants.{EnumeratorOutOfRange}
use Rattle.vocabulary.specs.declared.int_kind.IntKind.{IntKind}
use Rattle.sparse_model.specs.declared.ids.Restrict.{Restrict}
use Rattle.meaning_types.specs.Types.{TypeTree}
use Rattle.meaning_operands.specs.Failures.{Failure}
use Rattle.meaning_constants.specs.Enumerators.{holds_all}
use Rattle.meaning_typing.specs.Facts.{NamedType}
use Rattle.meaning_typing.specs.Rows.{Row, breaks, breaks_at, known, nothing}
use Rattle.meaning_typing.specs.Enumerations as meaning
use Rattle.meaning_typing.specs.EnumRows as meaning_rows
use Rattle.meaning_typing.specs.EnumRows.{SeenEnumerator}
use Rattle.enum_rows.specs.declared.enumeration.Enumerators.{Enumerators}
use Rattle.enum_rows.specs.declared.kept.Values.{Values}
use Rattle.enum_rows.specs.declared.integers.IntegerType.{IntegerType}
use Rattle.enum_rows.specs.declared.integers.RestrictedType.{RestrictedType}
use Rattle.enum_rows.specs.declared.integers.Span.{Span}
use Rattle.enum_rows.specs.declared.values.EnumeratorValue.{EnumeratorValue}
use Rattle.enum_rows.specs.Integers.{has_span, integer_of_restricted, kind_of_span, only_number, restricted_seen, type_of_integer}
use Rattle.enum_rows.specs.Values.{value_seen}

-- What a list of enumerators says

abbrev pub numbers_of : List meaning.EnumeratorValue → List ℤ
numbers_of values = map (λ value. value.constant.number) values

-- the type of the first that isn't the plain constant 0
abbrev pub first_not_zero : List meaning.EnumeratorValue → Option TypeTree
first_not_zero [] = None
first_not_zero (value ∷ others) = if meaning.is_plain_zero value then first_not_zero others else Some (meaning_rows.own_type value)

-- The type of the first that doesn't join those of the first restricted type. Where none is restricted, the plain constants 0 alone
-- would join one.
abbrev pub first_unlike : Option (IntKind × ℕ) → List meaning.EnumeratorValue → Option TypeTree
first_unlike None values = first_not_zero values
first_unlike (Some (kind, identity)) values = meaning_rows.first_apart identity values

-- the value of the last, if it is known
abbrev pub last_value : (before : Option meaning.EnumeratorValue) → List SeenEnumerator → Option meaning.EnumeratorValue
last_value before [] = before
last_value before (enumerator ∷ others) = last_value (meaning_rows.value_in enumerator.fact) others

-- What is kept stands for a list

pub record StandsForValues (values : Values) (list : List meaning.EnumeratorValue) : Type 0 where
  -- a kind has all numbers where it has the span, in which 0 is
  pub numbers : (kind : IntKind) → holds_all kind (numbers_of list) ≡ has_span kind values.span
  pub restricted : option_map restricted_seen values.restricted ≡ meaning.first_restricted list
  pub apart : option_map type_of_integer values.apart ≡ first_unlike (meaning.first_restricted list) list

-- values are kept where each enumerator is known
abbrev pub StandsForKnown : Option Values → Option (List meaning.EnumeratorValue) → Type 0
StandsForKnown None None = Unit {0}
StandsForKnown (Some values) (Some list) = StandsForValues values list
StandsForKnown kept list = ⊥

pub record StandsFor (kept : Enumerators) (list : List SeenEnumerator) : Type 0 where
  pub before : option_map value_seen kept.before ≡ last_value None list
  pub counts_too_far : kept.counts_too_far ≡ meaning_rows.counts_too_far None list
  pub values : StandsForKnown kept.values (meaning_rows.values_of list)

-- As they are made

abbrev pub wider : Span → ℤ → Span
wider span number =
    record { least = if int_lt number span.least then number else span.least; greatest = if int_lt span.greatest number then number else span.greatest }

abbrev pub no_values : Values
no_values = record { span = only_number (pos 0); restricted = None; apart = None }

abbrev pub restricted_if : IntKind → Option Restrict → Option RestrictedType
restricted_if kind None = None
restricted_if kind (Some identity) = Some (record { kind = kind; identity = identity })

abbrev pub restricted_of : EnumeratorValue → Option RestrictedType
restricted_of value = restricted_if value.of.kind value.of.identity

-- it has the type that is shared, if one is, or is the plain constant 0
abbrev pub joins : (shared : Option (IntKind × ℕ)) → meaning.EnumeratorValue → Bool
joins None value = meaning.is_plain_zero value
joins (Some (kind, identity)) value = meaning.has_identity identity value.identity || meaning.is_plain_zero value

abbrev pub apart_if : Option RestrictedType → EnumeratorValue → Option IntegerType
apart_if restricted value = if joins (option_map restricted_seen restricted) (value_seen value) then None else Some value.of

-- with one more behind them
abbrev pub values_with : Values → EnumeratorValue → Values
values_with values value =
    record {
      span = wider values.span value.number;
      restricted = option_or values.restricted (restricted_of value);
      apart = option_or values.apart (apart_if (option_or values.restricted (restricted_of value)) value);
    }

abbrev pub known_with : Option Values → Option EnumeratorValue → Option Values
known_with (Some values) (Some value) = Some (values_with values value)
known_with values value = None

abbrev pub enumerators_with : Enumerators → (has_expression : Bool) → Option EnumeratorValue → Enumerators
enumerators_with kept has_expression value =
    record {
      before = value;
      counts_too_far = kept.counts_too_far || (not has_expression && meaning_rows.has_no_next (option_map value_seen kept.before));
      values = known_with kept.values value;
    }

-- Rows by what is kept

abbrev pub shared_if : Option RestrictedType → (apart : Option IntegerType) → Option RestrictedType
shared_if restricted None = restricted
shared_if restricted (Some apart) = None

-- the restricted type that all share
abbrev pub shared : Values → Option RestrictedType
shared values = shared_if values.restricted values.apart

abbrev pub mixed_of : (token : ℕ) → Option RestrictedType → (apart : Option IntegerType) → List Failure
mixed_of token (Some restricted) (Some apart) =
    meaning_rows.apart_failures token (type_of_integer (integer_of_restricted restricted)) (Some (type_of_integer apart))
mixed_of token restricted apart = []

abbrev pub mixed_failures : (token : ℕ) → Values → List Failure
mixed_failures token values = mixed_of token values.restricted values.apart

abbrev pub row_by : (token : ℕ) → Values → (shared : Option RestrictedType) → Row
row_by token values (Some restricted) = known (NamedType (type_of_integer (integer_of_restricted restricted)))
row_by token values None = meaning_rows.plain_enumeration token (mixed_failures token values) (kind_of_span values.span)

abbrev pub row_of_known : (token : ℕ) → Option Values → Row
row_of_known token None = nothing
row_of_known token (Some values) = row_by token values (shared values)

abbrev pub row_of : (token : ℕ) → Enumerators → Row
row_of token kept = if kept.counts_too_far then breaks (breaks_at EnumeratorOutOfRange token) else row_of_known token kept.values
