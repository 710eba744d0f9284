-- What is kept stands for the list that was read, with one more too, and tells its row.
use Rattle.std.proofs.Common.{◌≡◌, ℕ, Bool, true, false, ◌&&◌, ◌||◌, not, List, [], ◌∷◌, ◌++◌, Option, Some, None, is_none, option_map, if◌then◌else◌, refl, sym, ap, subst, ◌∙◌}
use Rattle.std.specs.Option.{option_or}
use Rattle.vocabulary.specs.declared.error_kind.ErrorKind.TheVariants.{EnumeratorOutOfRange}
use Rattle.vocabulary.specs.declared.int_kind.IntKind.{IntKind}
use Rattle.sparse_model.specs.declared.ids.Restrict.{Restrict}
use Rattle.meaning_types.specs.Types.{TypeTree}
use Rattle.meaning_constants.specs.Enumerators.{enumeration_kinds, first_kind, holds}
use Rattle.meaning_typing.specs.Enumerations as meaning
use Rattle.meaning_typing.specs.EnumRows as meaning_rows
use Rattle.meaning_typing.specs.EnumRows.{SeenEnumerator, apart_failures, counts_too_far, enumeration_by, enumeration_of, enumeration_row, first_apart, has_no_next, mixed_by, plain_enumeration, value_in, values_of}
use Rattle.meaning_typing.specs.Facts.{Fact}
use Rattle.meaning_typing.specs.Rows.{breaks, breaks_at}
use Rattle.c_types.specs.Operands.{identity_seen}
use Rattle.enum_rows.specs.declared.enumeration.Enumerators.{Enumerators}
use Rattle.enum_rows.specs.declared.kept.Values.{Values}
use Rattle.enum_rows.specs.declared.integers.IntegerType.{IntegerType}
use Rattle.enum_rows.specs.declared.integers.RestrictedType.{RestrictedType}
use Rattle.enum_rows.specs.declared.values.EnumeratorValue.{EnumeratorValue}
use Rattle.enum_rows.specs.Enumerations.{StandsFor, StandsForKnown, StandsForValues, apart_if, enumerators_with, first_unlike, joins, known_with, mixed_of, numbers_of, restricted_if, restricted_of, row_by, row_of, row_of_known, shared, shared_if, values_with}
use Rattle.enum_rows.specs.Integers.{first_with_span, integer_of_restricted, restricted_seen, type_of_integer}
use Rattle.enum_rows.specs.Values.{value_seen}
use Rattle.enum_rows.proofs.ListLemmas.{all_join-is, apart_alone, counts-snoc, last-snoc, numbers-snoc, restricted-snoc, restricted_alone, unlike-snoc, values-snoc, with_last}
use Rattle.enum_rows.proofs.SpanLemmas.{wider_spanned}

map-or : {X Y : Type 0} (f : X → Y) (first second : Option X) → option_map f (option_or first second) ≡ option_or (option_map f first) (option_map f second)
map-or f None second = refl
map-or f (Some first) second = refl

-- Values with one more

-- one is seen with its restricted type, if it has one
alone-seen : (kind : IntKind) (identity : Option Restrict)
    → option_map restricted_seen (restricted_if kind identity) ≡ meaning.with_kind kind (identity_seen identity) None
alone-seen kind None = refl
alone-seen kind (Some identity) = refl

-- and with its type where it is apart
apart-seen : (value : EnumeratorValue) (test : Bool)
    → option_map type_of_integer (if test then None else Some value.of) ≡ (if test then None else Some (type_of_integer value.of))
apart-seen value true = refl
apart-seen value false = refl

module _ (values : Values) (list : List meaning.EnumeratorValue) (value : EnumeratorValue) (stands : StandsForValues values list) where
  restricted-on : option_map restricted_seen (option_or values.restricted (restricted_of value))
      ≡ option_or (meaning.first_restricted list) (restricted_alone (value_seen value))
  restricted-on =
      map-or restricted_seen values.restricted (restricted_of value)
      ∙ (λ i. option_or (stands.restricted i) (alone-seen value.of.kind value.of.identity i))

  apart-on : option_map type_of_integer (option_or values.apart (apart_if (option_or values.restricted (restricted_of value)) value))
      ≡ option_or (first_unlike (meaning.first_restricted list) list)
      (apart_alone (option_or (meaning.first_restricted list) (restricted_alone (value_seen value))) (value_seen value))
  apart-on =
      map-or type_of_integer values.apart (apart_if (option_or values.restricted (restricted_of value)) value)
      ∙ (λ i. option_or (stands.apart i) (apart-seen value (joins (option_map restricted_seen (option_or values.restricted (restricted_of value))) (value_seen value)) i))
      ∙ (λ i. option_or (first_unlike (meaning.first_restricted list) list) (apart_alone (restricted-on i) (value_seen value)))

  -- values with one more stand for the list with it
  values_on : StandsForValues (values_with values value) (list ++ value_seen value ∷ [])
  values_on =
      record {
        numbers = λ kind.
            numbers-snoc kind list (value_seen value)
            ∙ (λ i. stands.numbers kind i && holds kind value.number)
            ∙ sym (wider_spanned kind values.span value.number);
        restricted = restricted-on ∙ sym (restricted-snoc list (value_seen value));
        apart = apart-on ∙ sym (unlike-snoc list (value_seen value));
      }

-- Enumerators with one more

known_on : (values : Option Values) (list : Option (List meaning.EnumeratorValue)) (value : Option EnumeratorValue)
    → StandsForKnown values list → StandsForKnown (known_with values value) (with_last list (option_map value_seen value))
known_on None None value stands = tt
known_on (Some values) (Some list) None stands = tt
known_on (Some values) (Some list) (Some value) stands = values_on values list value stands
known_on None (Some list) value stands = absurd stands
known_on (Some values) None value stands = absurd stands

pub enumerators_on : (kept : Enumerators) (has_expression : Bool) (value : Option EnumeratorValue) (fact : Fact) (list : List SeenEnumerator)
    → option_map value_seen value ≡ value_in fact → StandsFor kept list
    → StandsFor (enumerators_with kept has_expression value) (list ++ record { has_expression = has_expression; fact = fact } ∷ [])
enumerators_on kept has_expression value fact list is stands =
    let enumerator : SeenEnumerator = record { has_expression = has_expression; fact = fact } in
    record {
      before = is ∙ sym (last-snoc None list enumerator);
      counts_too_far =
          (λ i. stands.counts_too_far i || (not has_expression && has_no_next (stands.before i)))
          ∙ sym (counts-snoc None list enumerator);
      values = subst (StandsForKnown (known_with kept.values value)) (ap (with_last (values_of list)) is ∙ sym (values-snoc list enumerator))
          (known_on kept.values (values_of list) value stands.values);
    }

-- Rows

-- the span tells the first kind that has all numbers
first-spanned : (kinds : List IntKind) (values : Values) (list : List meaning.EnumeratorValue) → StandsForValues values list
    → first_with_span kinds values.span ≡ first_kind kinds (numbers_of list)
first-spanned [] values list stands = refl
first-spanned (kind ∷ kinds) values list stands = λ i. if sym (stands.numbers kind) i then Some kind else first-spanned kinds values list stands i

module _ (values : Values) (list : List meaning.EnumeratorValue) (stands : StandsForValues values list) where
  -- the first apart, by the first restricted one
  apart-is : option_map type_of_integer values.apart ≡ first_unlike (option_map restricted_seen values.restricted) list
  apart-is = stands.apart ∙ ap (λ found. first_unlike found list) (sym stands.restricted)

  -- all share the type of the first restricted one where none is apart
  shared-if : (restricted : RestrictedType) (apart : Option TypeTree) → apart ≡ first_apart restricted.identity.0 list
      → (if is_none apart then Some (restricted_seen restricted) else None) ≡ meaning.shared_if list (Some (restricted_seen restricted))
  shared-if restricted apart is =
      (λ i. if is_none (is i) then Some (restricted_seen restricted) else None)
      ∙ (λ i. if sym (all_join-is restricted.identity.0 list) i then Some (restricted_seen restricted) else None)

  shared-by : (restricted : Option RestrictedType) (apart : Option IntegerType)
      → option_map type_of_integer apart ≡ first_unlike (option_map restricted_seen restricted) list
      → option_map restricted_seen (shared_if restricted apart) ≡ meaning.shared_if list (option_map restricted_seen restricted)
  shared-by None None is = refl
  shared-by None (Some apart) is = refl
  shared-by (Some restricted) None is = shared-if restricted None is
  shared-by (Some restricted) (Some apart) is = shared-if restricted (Some (type_of_integer apart)) is

  pub shared_told : option_map restricted_seen (shared values) ≡ meaning.shared_identity list
  shared_told = shared-by values.restricted values.apart apart-is ∙ ap (meaning.shared_if list) stands.restricted

  module _ (token : ℕ) where
    -- a rule fails where one is apart from the first restricted one
    mixed-by : (restricted : Option RestrictedType) (apart : Option IntegerType)
        → option_map type_of_integer apart ≡ first_unlike (option_map restricted_seen restricted) list
        → mixed_of token restricted apart ≡ mixed_by token list (option_map restricted_seen restricted)
    mixed-by None apart is = refl
    mixed-by (Some restricted) None is = ap (apart_failures token (type_of_integer (integer_of_restricted restricted))) is
    mixed-by (Some restricted) (Some apart) is = ap (apart_failures token (type_of_integer (integer_of_restricted restricted))) is

    mixed_told : mixed_of token values.restricted values.apart ≡ meaning_rows.mixed_failures token list
    mixed_told = mixed-by values.restricted values.apart apart-is ∙ ap (mixed_by token list) stands.restricted

    -- the row by what all share
    row-sharing : (sharing : Option RestrictedType) → row_by token values sharing ≡ enumeration_by token list (option_map restricted_seen sharing)
    row-sharing None = λ i. plain_enumeration token (mixed_told i) (first-spanned enumeration_kinds values list stands i)
    row-sharing (Some restricted) = refl

    values_row : row_by token values (shared values) ≡ enumeration_by token list (meaning.shared_identity list)
    values_row = row-sharing (shared values) ∙ ap (enumeration_by token list) shared_told

known_row : (token : ℕ) (values : Option Values) (list : Option (List meaning.EnumeratorValue)) → StandsForKnown values list
    → row_of_known token values ≡ enumeration_of token list
known_row token None None stands = refl
known_row token (Some values) (Some list) stands = values_row values list stands token
known_row token None (Some list) stands = absurd stands
known_row token (Some values) None stands = absurd stands

pub row_told : (token : ℕ) (kept : Enumerators) (list : List SeenEnumerator) → StandsFor kept list → row_of token kept ≡ enumeration_row token list
row_told token kept list stands =
    λ i. if stands.counts_too_far i then breaks (breaks_at EnumeratorOutOfRange token) else known_row token kept.values (values_of list) stands.values i
