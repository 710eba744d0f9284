-- Steps are told by the layouts and the names of a table, and by what is asked of an index.
use Rattle.std.proofs.Common.{◌≡◌, ℕ, ◌+◌, ◌/◌, nat_le, Bool, true, false, ℤ, pos, negsuc, ◌≤ℤ◌, is_some, List, [], ◌++◌, Option, Some, None, Result, if◌then◌else◌, refl, sym, ◌∙◌, arith, unsigned_abs}
use Rattle.std.proofs.lemmas.Int.{ints}
use Rattle.std.specs.Option.{option_and_then}
use Rattle.sparse_model.specs.declared.ids.NameId.{NameId}
use Rattle.meaning_operands.specs.Failures as failures
use Rattle.meaning_types.specs.Types.{Qualifiers, Flags, TypeTree, Typed, VoidTree, IntegerTree, RestrictedTree, PointerTree, ArrayTree, FunctionTree, AggregateTree}
use Rattle.meaning_layout.specs.Layouts.{Layout, LayoutFault, most_bytes}
use Rattle.meaning_layout.specs.Members.{FoundMember, member_bits}
use Rattle.meaning_layout.specs.Sizes.{Told}
use Rattle.meaning_layout.specs.Telling.{or_incomplete}
use Rattle.meaning_constants.specs.Sizes.{NamedMember, part_at_bit, part_found, spot_behind}
use Rattle.meaning_typing.specs.Facts.{Fact, Unknown, Expression, Specified, Declared, NamedType, ExpressionFact, type_of_value}
use Rattle.meaning_typing.specs.OffsetRows as meaning
use Rattle.meaning_typing.specs.OffsetRows.{element_in}
use Rattle.meaning_typing.specs.Operators.{sort_of}
use Rattle.meaning_typing.specs.Rows.{breaks_at}
use Rattle.meaning_types.specs.Spaces.{is_void}
use Rattle.vocabulary.specs.declared.error_kind.ErrorKind.TheVariants.{CannotDereference, VoidValueUsed}
use Rattle.c_types.specs.Layouts.{told_in}
use Rattle.c_types.specs.Members.{member_in}
use Rattle.c_types.specs.Table.{TypeTable, integer_kind}
use Rattle.member_rows.specs.Aggregates.{aggregates_in, bytes_at_bit, bytes_of_member, bytes_in, bytes_within}
use Rattle.member_rows.specs.Steps.{element_at_number, bytes_to_element, to_element_if, to_element_of}
use Rattle.member_rows.proofs.AggregateLemmas.{named_is, told_is}
use Rattle.node_facts.specs.Facts.{name_seen}

-- Members

at_bit : (bytes : ℕ) (of : TypeTree) (bit : ℕ) → bytes_within (bytes + bit / 8) ≡ meaning.bytes_of_part (spot_behind bytes (Some (record { bytes = bit / 8; of = of })))
at_bit bytes of bit = by (nat_le (bytes + bit / 8) most_bytes)
  where
    by : (test : Bool) → (if test then Some (bytes + bit / 8) else None)
        ≡ meaning.bytes_of_part (if test then Some (record { bytes = bytes + bit / 8; of = of }) else None)
    by true = refl
    by false = refl

found_at : (bytes : ℕ) (layout : Result Layout LayoutFault) (found : Option FoundMember) → bytes_of_member bytes layout found ≡ meaning.bytes_of_part (spot_behind bytes (part_found layout found))
found_at bytes layout None = refl
found_at bytes layout (Some found) = by (member_bits layout found)
  where
    by : (bit : Option ℕ) → bytes_at_bit bytes bit ≡ meaning.bytes_of_part (spot_behind bytes (part_at_bit bit found.of))
    by None = refl
    by (Some bit) = at_bit bytes found.of bit

module _ (table : TypeTable) (name : NameId) where
  pub member_told : (type_ : TypeTree) (bytes : ℕ) → bytes_in table name type_ bytes ≡ meaning.bytes_to (aggregates_in table) (NamedMember (name_seen name)) type_ bytes
  member_told (Typed VoidTree _ _) bytes = refl
  member_told (Typed (IntegerTree kind) _ _) bytes = refl
  member_told (Typed (RestrictedTree kind identity) _ _) bytes = refl
  member_told (Typed (PointerTree target) _ _) bytes = refl
  member_told (Typed (ArrayTree element length) _ _) bytes = refl
  member_told (Typed (FunctionTree result parameters variadic) _ _) bytes = refl
  member_told (Typed (AggregateTree number is_union) qualifiers flags) bytes =
      found_at bytes (or_incomplete (told_in table number is_union)) (member_in table number name)
      ∙ sym (λ i. meaning.bytes_of_part (spot_behind bytes (part_found (or_incomplete (told_is table i number is_union)) (named_is table number name i))))

-- Elements

-- an index that isn't below 0
pub number_led : (told : Told) (token : ℕ) (failing : List failures.Failure) (reached : meaning.Reached) (element : TypeTree) (number : ℤ) → pos 0 ≤ℤ number
    → meaning.led_to token failing reached element (option_and_then (bytes_to_element told element (unsigned_abs number)) reached.bytes)
    ≡ element_at_number told token failing reached element (Some number)
number_led told token failing reached element (pos number) above = refl
number_led told token failing reached element (negsuc number) above = absurd (omega (arith, ints, above))

module _ (table : TypeTable) (token index : ℕ) (element : TypeTree) (length : Option ℕ) (qualifiers : Qualifiers) (flags : Flags)
    (width bytes : Option ℕ) (is_known : Bool) where
  abbrev reached : meaning.Reached
  reached = record { of = Typed (ArrayTree element length) qualifiers flags; width = width; bytes = bytes; is_known = is_known }

  number_told : (failing : List failures.Failure) (number : Option ℤ)
      → element_at_number (told_in table) token failing reached element number ≡ meaning.by_number (aggregates_in table) token failing reached element number
  number_told failing None = refl
  number_told failing (Some (negsuc number)) = refl
  number_told failing (Some (pos number)) =
      sym (λ i. meaning.led_to token failing reached element (option_and_then (bytes_to_element (told_is table i) element number) bytes))

  module _ (expression : ExpressionFact) where
    abbrev failing : List failures.Failure
    failing = meaning.restricted_index token (type_of_value expression)

    index_told : (type_ : TypeTree)
        → (if is_some (integer_kind type_) then element_at_number (told_in table) token failing reached element expression.constant
        else meaning.stopped (breaks_at CannotDereference token ++ (if is_void type_ then breaks_at VoidValueUsed index else [])) [])
        ≡ meaning.by_index (aggregates_in table) token index reached element expression (sort_of type_)
    index_told (Typed VoidTree _ _) = refl
    index_told (Typed (IntegerTree kind) _ _) = number_told failing expression.constant
    index_told (Typed (RestrictedTree kind identity) _ _) = number_told failing expression.constant
    index_told (Typed (PointerTree target) _ _) = refl
    index_told (Typed (ArrayTree inner count) _ _) = refl
    index_told (Typed (FunctionTree result parameters variadic) _ _) = refl
    index_told (Typed (AggregateTree number is_union) _ _) = refl

  fact_told : (fact : Fact) → to_element_of (told_in table) token index reached element fact ≡ meaning.to_element (aggregates_in table) token index reached (Some element) fact
  fact_told Unknown = refl
  fact_told (Expression expression) = index_told expression (type_of_value expression)
  fact_told (Specified specifiers) = refl
  fact_told (Declared declaration) = refl
  fact_told (NamedType type_) = refl

module _ (table : TypeTable) (token index : ℕ) (fact : Fact) where
  array_told : (of : TypeTree) (width bytes : Option ℕ) (is_known : Bool)
      → to_element_if (told_in table) token index (record { of = of; width = width; bytes = bytes; is_known = is_known }) (element_in of) fact
      ≡ meaning.to_element (aggregates_in table) token index (record { of = of; width = width; bytes = bytes; is_known = is_known }) (element_in of) fact
  array_told (Typed VoidTree _ _) width bytes is_known = refl
  array_told (Typed (IntegerTree kind) _ _) width bytes is_known = refl
  array_told (Typed (RestrictedTree kind identity) _ _) width bytes is_known = refl
  array_told (Typed (PointerTree target) _ _) width bytes is_known = refl
  array_told (Typed (ArrayTree element length) qualifiers flags) width bytes is_known =
      fact_told table token index element length qualifiers flags width bytes is_known fact
  array_told (Typed (FunctionTree result parameters variadic) _ _) width bytes is_known = refl
  array_told (Typed (AggregateTree number is_union) _ _) width bytes is_known = refl

  pub element_told : (reached : meaning.Reached)
      → to_element_if (told_in table) token index reached (element_in reached.of) fact ≡ meaning.step_to (aggregates_in table) reached (meaning.ToElement token index fact)
  element_told reached = array_told reached.of reached.width reached.bytes reached.is_known
