-- Each constant is settled in its kind, or is 0 or 1.
use Rattle.std.proofs.Common.{if◌then◌else◌, Bool, true, false, ℕ, ℤ, pos, Option, Some, None, nat_le, subst}
use Rattle.std.proofs.lemmas.Option.{none-some, same_Some}
use Rattle.std.specs.Int.Signed.{le_z_yes}
use Rattle.std.specs.Ordering.{int_eq}
use Rattle.vocabulary.specs.declared.int_kind.IntKind.{IntKind}
use Rattle.vocabulary.specs.declared.int_kind.IntKind.TheVariants as kinds
use Rattle.vocabulary.specs.declared.operator.Operator.TheVariants as operators
use Rattle.meaning_types.specs.Types.{TypeTree, Typed, VoidTree, IntegerTree, RestrictedTree, PointerTree, ArrayTree, FunctionTree, AggregateTree}
use Rattle.meaning_types.specs.Conversions.{promoted}
use Rattle.meaning_constants.specs.Numbers.{truth_of, converted}
use Rattle.meaning_constants.specs.Constants.{Constant, Part, with_kind, with_number, settled, settled_if, size_constant, most_bytes, int_constant, is_fouled_by}
use Rattle.meaning_constants.specs.laws.Constants.{IsOfItsKind, IsOfItsKindIfAny, ConstantsAreInRange}
use Rattle.meaning_constants.proofs.Numbers.{converted_is_in_range, wrapped_is_in_range, truth_is_an_int}

-- What holds of each constant that may come holds of the one that comes.

none : (fouled : Bool) → IsOfItsKindIfAny fouled None
none fouled constant is = absurd (none-some constant is)

this : (fouled : Bool) (found : Constant) → IsOfItsKind fouled found → IsOfItsKindIfAny fouled (Some found)
this fouled found holds constant is = subst (IsOfItsKind fouled) (same_Some found constant is) holds

pub of_kind : (fouled : Bool) (of : TypeTree) (next : IntKind → Option Constant)
    → ((kind : IntKind) → IsOfItsKindIfAny fouled (next kind)) → IsOfItsKindIfAny fouled (with_kind of next)
of_kind fouled (Typed (IntegerTree kind) qualifiers flags) next each = each kind
of_kind fouled (Typed (RestrictedTree kind identity) qualifiers flags) next each = each kind
of_kind fouled (Typed VoidTree qualifiers flags) next each = none fouled
of_kind fouled (Typed (PointerTree target) qualifiers flags) next each = none fouled
of_kind fouled (Typed (ArrayTree element length) qualifiers flags) next each = none fouled
of_kind fouled (Typed (FunctionTree result parameters variadic) qualifiers flags) next each = none fouled
of_kind fouled (Typed (AggregateTree number is_union) qualifiers flags) next each = none fouled

pub of_number : (fouled : Bool) (number : Option ℤ) (next : ℤ → Option Constant)
    → ((number : ℤ) → IsOfItsKindIfAny fouled (next number)) → IsOfItsKindIfAny fouled (with_number number next)
of_number fouled None next each = none fouled
of_number fouled (Some number) next each = each number

chosen : (fouled first : Bool) (found other : Option Constant)
    → IsOfItsKindIfAny fouled found → IsOfItsKindIfAny fouled other → IsOfItsKindIfAny fouled (if first then found else other)
chosen fouled true found other holds others = holds
chosen fouled false found other holds others = others

-- What a number is settled to

settles : (fouled : Bool) (kind : IntKind) (number : ℤ) → IsOfItsKindIfAny fouled (Some (settled fouled kind number))
settles fouled kind number = this fouled (settled fouled kind number) (wrapped_is_in_range (if fouled then promoted kind else kind) number)

settles_if : (fouled : Bool) (kind : IntKind) (number : Option ℤ) → IsOfItsKindIfAny fouled (settled_if fouled kind number)
settles_if fouled kind None = none fouled
settles_if fouled kind (Some number) = settles fouled kind number

converts : (kind : IntKind) (number : ℤ) → IsOfItsKindIfAny false (Some (record { kind = kind; number = converted kind number }))
converts kind number = this false (record { kind = kind; number = converted kind number }) (converted_is_in_range kind number)

sized : (bytes : Option ℕ) → IsOfItsKindIfAny false (size_constant bytes)
sized None = none false
sized (Some bytes) = chosen false (nat_le bytes most_bytes) (Some (settled false kinds.ULong (pos bytes))) None (settles false kinds.ULong (pos bytes)) (none false)

-- 0 and 1

zero : IsOfItsKindIfAny false (int_constant (pos 0))
zero = this false (record { kind = kinds.Int; number = pos 0 }) (le_z_yes tt, le_z_yes tt)

one : IsOfItsKindIfAny false (int_constant (pos 1))
one = this false (record { kind = kinds.Int; number = pos 1 }) (le_z_yes tt, le_z_yes tt)

tested : (right : Part) → IsOfItsKindIfAny false (with_kind right.of (λ other. with_number right.number (λ second. int_constant (truth_of second))))
tested right =
    of_kind false right.of _
    (λ other. of_number false right.number _ (λ second. this false (record { kind = kinds.Int; number = truth_of second }) (truth_is_an_int second)))

-- The law

pub constants_are_in_range : ConstantsAreInRange
constants_are_in_range = record {
  literals = λ kind bits. settles false kind (pos bits);
  sizes = sized;
  casts = λ to part. of_kind false to _ (λ kind. of_kind false part.of _ (λ source. of_number false part.number _ (λ number. converts kind number)));
  unary = λ operator part.
      let fouled = is_fouled_by operator part part in
      of_kind fouled part.of _ (λ kind. of_number fouled part.number _ (λ number. settles_if fouled _ _));
  binary = λ operator left right.
      let fouled = is_fouled_by operator left right in
      of_kind fouled left.of _
      (λ kind. of_kind fouled right.of _ (λ other. of_number fouled left.number _ (λ number. of_number fouled right.number _ (λ second. settles_if fouled _ _))));
  both = λ left right.
      of_kind false left.of _ (λ kind. of_number false left.number _ (λ number. chosen false (int_eq number (pos 0)) _ _ zero (tested right)));
  either = λ left right.
      of_kind false left.of _ (λ kind. of_number false left.number _ (λ number. chosen false (int_eq number (pos 0)) _ _ (tested right) one));
  arms = λ arm second third.
      let fouled = is_fouled_by operators.Conditional second third in
      of_kind fouled second.of _ (λ kind. of_kind fouled third.of _ (λ other. settles_if fouled _ _));
}
