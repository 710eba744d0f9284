-- What an operator or a conversion sees of an operand.
use Rattle.std.specs.Prelude.{ℕ, Bool, true, false, ◌&&◌, not, nat_eq, nat_lt, Option, Some, None, is_some}
use Rattle.vocabulary.specs.declared.int_kind.IntKind.{IntKind}
use Rattle.vocabulary.specs.declared.int_kind.IntKind.TheVariants.{Int}
use Rattle.meaning_types.specs.Types.{TypeTree, Typed, IntegerTree, RestrictedTree, PointerTree}
use Rattle.meaning_types.specs.Ranges.{width}
use Rattle.meaning_types.specs.Conversions.{is_signed}

-- An operand: its type as a value; whether it is fouled, so that bits above its type may be set; and whether it is the
-- constant 0, an integer constant expression of that value and of a plain type.
pub record Operand : Type 0 where
  pub of : TypeTree
  pub fouled : Bool
  pub zero : Bool

-- the identity of a restricted integer type
abbrev pub identity_of : TypeTree → Option ℕ
identity_of (Typed (RestrictedTree kind identity) _ _) = Some identity
identity_of (Typed base _ _) = None

abbrev pub is_restricted : TypeTree → Bool
is_restricted type_ = is_some (identity_of type_)

-- plain or restricted
abbrev pub is_integer : TypeTree → Bool
is_integer (Typed (IntegerTree kind) _ _) = true
is_integer (Typed (RestrictedTree kind identity) _ _) = true
is_integer (Typed base _ _) = false

abbrev pub is_pointer : TypeTree → Bool
is_pointer (Typed (PointerTree target) _ _) = true
is_pointer (Typed base _ _) = false

abbrev pub are_integers : Operand → Operand → Bool
are_integers left right = is_integer left.of && is_integer right.of

-- both are one restricted type, or both plain
abbrev pub are_one_identity : Option ℕ → Option ℕ → Bool
are_one_identity None None = true
are_one_identity (Some identity) (Some other) = nat_eq identity other
are_one_identity _ _ = false

-- an unsigned kind that is promoted to a wider one, so that `~` sets bits that its type hasn't
abbrev pub is_unsigned_and_narrow : IntKind → Bool
is_unsigned_and_narrow kind = not (is_signed kind) && nat_lt (width kind) (width Int)

-- `~` of a value of this type is fouled
abbrev pub complement_fouls : TypeTree → Bool
complement_fouls (Typed (RestrictedTree kind identity) _ _) = is_unsigned_and_narrow kind
complement_fouls (Typed base _ _) = false
