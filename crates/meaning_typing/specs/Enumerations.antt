-- Enumerations whose enumerators share a restricted type (C11 6.7.2.2 has none: our choice).
use Rattle.std.specs.Prelude.{ℕ, ℤ, pos, nat_eq, Bool, true, false, ◌&&◌, ◌||◌, not, is_some, List, [], ◌∷◌, map, Option, Some, None, if◌then◌else◌}
use Rattle.std.specs.Ordering.{int_eq}
use Rattle.vocabulary.specs.declared.int_kind.IntKind.{IntKind}
use Rattle.meaning_types.specs.Types.{TypeTree, BaseTree, RestrictedTree, IntegerTree}
use Rattle.meaning_constants.specs.Constants.{Constant}
use Rattle.meaning_typing.specs.Specifiers.{plain_type}

-- an enumerator by itself: its constant, and the identity of its type where that is restricted
pub record EnumeratorValue : Type 0 where
  pub constant : Constant
  pub identity : Option ℕ

abbrev pub is_plain_zero : EnumeratorValue → Bool
is_plain_zero enumerator = not (is_some enumerator.identity) && int_eq enumerator.constant.number (pos 0)

abbrev pub has_identity : (identity : ℕ) → Option ℕ → Bool
has_identity identity None = false
has_identity identity (Some other) = nat_eq identity other

-- each of them has this identity, or is the plain constant 0
abbrev pub all_join : (identity : ℕ) → List EnumeratorValue → Bool
all_join identity [] = true
all_join identity (enumerator ∷ others) =
    (has_identity identity enumerator.identity || is_plain_zero enumerator) && all_join identity others

-- the kind and the identity of the first restricted one
abbrev pub with_kind : IntKind → Option ℕ → Option (IntKind × ℕ) → Option (IntKind × ℕ)
with_kind kind None otherwise = otherwise
with_kind kind (Some identity) otherwise = Some (kind, identity)

abbrev pub first_restricted : List EnumeratorValue → Option (IntKind × ℕ)
first_restricted [] = None
first_restricted (enumerator ∷ others) = with_kind enumerator.constant.kind enumerator.identity (first_restricted others)

abbrev pub shared_if : List EnumeratorValue → Option (IntKind × ℕ) → Option (IntKind × ℕ)
shared_if enumerators None = None
shared_if enumerators (Some (kind, identity)) = if all_join identity enumerators then Some (kind, identity) else None

-- the kind and the identity that they share, if they do
abbrev pub shared_identity : List EnumeratorValue → Option (IntKind × ℕ)
shared_identity enumerators = shared_if enumerators (first_restricted enumerators)

abbrev pub integer_base : IntKind → (identity : Option ℕ) → BaseTree
integer_base kind None = IntegerTree kind
integer_base kind (Some identity) = RestrictedTree kind identity

-- the type and the number that an enumerator has among them: the plain constant 0 is one of the type that they share
abbrev pub typed_enumerator : Option (IntKind × ℕ) → EnumeratorValue → TypeTree × ℤ
typed_enumerator (Some (kind, identity)) enumerator = (plain_type (RestrictedTree kind identity), enumerator.constant.number)
typed_enumerator None enumerator = (plain_type (integer_base enumerator.constant.kind enumerator.identity), enumerator.constant.number)

abbrev pub typed_enumerators : List EnumeratorValue → List (TypeTree × ℤ)
typed_enumerators enumerators = map (typed_enumerator (shared_identity enumerators)) enumerators
