-- What is asked of a type is told by what it is.
use Rattle.std.proofs.Common.{◌≡◌, is_some, refl}
use Rattle.meaning_types.specs.Types.{TypeTree, Typed, VoidTree, IntegerTree, RestrictedTree, PointerTree, ArrayTree, FunctionTree, AggregateTree}
use Rattle.meaning_operands.specs.Operands.{complement_fouls, is_integer, is_pointer}
use Rattle.c_types.specs.Outlines.{outline_of, is_pointer_outline}
use Rattle.c_types.specs.Table.{integer_kind}
use Rattle.bitwise_rules.specs.Outlines.{fouls_in}

-- it is an integer where it has a kind
pub is_integer_told : (type_ : TypeTree) → is_some (integer_kind type_) ≡ is_integer type_
is_integer_told (Typed VoidTree _ _) = refl
is_integer_told (Typed (IntegerTree kind) _ _) = refl
is_integer_told (Typed (RestrictedTree kind identity) _ _) = refl
is_integer_told (Typed (PointerTree target) _ _) = refl
is_integer_told (Typed (ArrayTree element length) _ _) = refl
is_integer_told (Typed (FunctionTree result parameters variadic) _ _) = refl
is_integer_told (Typed (AggregateTree number is_union) _ _) = refl

-- it is a pointer
pub is_pointer_told : (type_ : TypeTree) → is_pointer_outline (outline_of type_) ≡ is_pointer type_
is_pointer_told (Typed VoidTree _ _) = refl
is_pointer_told (Typed (IntegerTree kind) _ _) = refl
is_pointer_told (Typed (RestrictedTree kind identity) _ _) = refl
is_pointer_told (Typed (PointerTree target) _ _) = refl
is_pointer_told (Typed (ArrayTree element length) _ _) = refl
is_pointer_told (Typed (FunctionTree result parameters variadic) _ _) = refl
is_pointer_told (Typed (AggregateTree number is_union) _ _) = refl

-- `~` of a value of it is fouled
pub complement_fouls_told : (type_ : TypeTree) → fouls_in (outline_of type_) ≡ complement_fouls type_
complement_fouls_told (Typed VoidTree _ _) = refl
complement_fouls_told (Typed (IntegerTree kind) _ _) = refl
complement_fouls_told (Typed (RestrictedTree kind identity) _ _) = refl
complement_fouls_told (Typed (PointerTree target) _ _) = refl
complement_fouls_told (Typed (ArrayTree element length) _ _) = refl
complement_fouls_told (Typed (FunctionTree result parameters variadic) _ _) = refl
complement_fouls_told (Typed (AggregateTree number is_union) _ _) = refl
