-- What holds of conversions.
use Rattle.std.specs.Prelude.{◌≡◌, Bool, true, false}
use Rattle.meaning_types.specs.Types.{TypeTree, Typed, IntegerTree, RestrictedTree, PointerTree, AggregateTree}
use Rattle.meaning_types.specs.Equality.{are_same}
use Rattle.meaning_operands.specs.Operands.{Operand}
use Rattle.meaning_operands.specs.Conversions.{Fine, conversion_answer}

-- neither void, nor an array, nor a function: an object may hold it whole
abbrev pub is_held : TypeTree → Bool
is_held (Typed (IntegerTree kind) _ _) = true
is_held (Typed (RestrictedTree kind identity) _ _) = true
is_held (Typed (PointerTree target) _ _) = true
is_held (Typed (AggregateTree number is_union) _ _) = true
is_held (Typed base _ _) = false

-- a value becomes a value of the same type, whatever else is known of it
abbrev pub SameTypesConvert : Type 0
SameTypesConvert = (from : Operand) (null : Bool) (to : TypeTree) → are_same from.of to ≡ true → is_held to ≡ true → conversion_answer from null to ≡ Fine
