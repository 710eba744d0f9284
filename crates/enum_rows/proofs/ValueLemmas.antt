-- Enumerators by themselves are told by their types and numbers.
use Rattle.std.proofs.Common.{◌≡◌, ℕ, ℤ, pos, ◌+ℤ◌, Bool, true, false, List, [], ◌∷◌, Option, Some, None, option_map, if◌then◌else◌, refl, sym, ap, ◌∙◌}
use Rattle.vocabulary.specs.declared.int_kind.IntKind.{IntKind}
use Rattle.vocabulary.specs.declared.int_kind.IntKind.TheVariants as kinds
use Rattle.meaning_types.specs.Types.{TypeTree, Typed, VoidTree, IntegerTree, RestrictedTree, PointerTree, ArrayTree, FunctionTree, AggregateTree}
use Rattle.meaning_constants.specs.Enumerators.{counted_enumerator, enumeration_kinds, first_kind, holds, with_enumerator_kind}
use Rattle.meaning_constants.specs.Numbers.{converted}
use Rattle.meaning_typing.specs.EnumRows as meaning
use Rattle.meaning_typing.specs.EnumRows.{counted_enumerator_row, enumerator_fact, has_no_next, next_row, value_of_type, valued_by}
use Rattle.meaning_typing.specs.Rows.{known}
use Rattle.enum_rows.specs.declared.values.EnumeratorValue.{EnumeratorValue}
use Rattle.enum_rows.specs.Integers.{first_with_span, integer_in, kind_of_span, only_number, plain_integer}
use Rattle.enum_rows.specs.Values.{counted, counted_row, next_if, value_by, value_row, value_seen, valued_row, with_kind}
use Rattle.enum_rows.proofs.ListLemmas.{and-true}

-- With an expression

-- an int where int has the number
int_or : (kind : IntKind) (number : ℤ) (is_int : Bool)
    → value_row (record { of = plain_integer (if is_int then kinds.Int else kind); number = number })
    ≡ known (enumerator_fact None (if is_int then record { kind = kinds.Int; number = number } else record { kind = kind; number = number }))
int_or kind number true = refl
int_or kind number false = refl

-- by the type of the expression and the number of its constant
pub valued_told : (token : ℕ) (type_ : TypeTree) (number : Option ℤ) → valued_row token (value_by (integer_in type_) number) ≡ valued_by token type_ number
valued_told token (Typed VoidTree _ _) number = refl
valued_told token (Typed (IntegerTree kind) _ _) None = refl
valued_told token (Typed (IntegerTree kind) _ _) (Some number) =
    int_or kind (converted kind number) (holds kinds.Int (converted kind number))
valued_told token (Typed (RestrictedTree kind identity) _ _) None = refl
valued_told token (Typed (RestrictedTree kind identity) _ _) (Some number) = refl
valued_told token (Typed (PointerTree target) _ _) number = refl
valued_told token (Typed (ArrayTree element length) _ _) number = refl
valued_told token (Typed (FunctionTree result parameters variadic) _ _) number = refl
valued_told token (Typed (AggregateTree count is_union) _ _) number = refl

-- Without one

-- a span of one number
first-is : (kinds : List IntKind) (number : ℤ) → first_with_span kinds (only_number number) ≡ first_kind kinds (number ∷ [])
first-is [] number = refl
first-is (kind ∷ others) number = λ i. if sym (and-true (holds kind number)) i then Some kind else first-is others number i

row-of : (kind : Option IntKind) (number : ℤ) → counted_row (with_kind kind number) ≡ meaning.counted_row (with_enumerator_kind kind number)
row-of None number = refl
row-of (Some kind) number = refl

counted_told : (number : ℤ) → counted_row (counted number) ≡ meaning.counted_row (counted_enumerator number)
counted_told number =
    row-of (kind_of_span (only_number number)) number
    ∙ ap (λ kind. meaning.counted_row (with_enumerator_kind kind number)) (first-is enumeration_kinds number)

pub next_told : (before : Option EnumeratorValue) → counted_row (next_if before) ≡ next_row (option_map value_seen before)
next_told None = refl
next_told (Some before) = counted_told (before.number +ℤ pos 1)
