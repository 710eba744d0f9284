-- Integer types are told by what types are.
use Rattle.std.proofs.Common.{◌≡◌, ℕ, Option, Some, None, refl}
use Rattle.meaning_types.specs.Types.{TypeTree, Typed, VoidTree, IntegerTree, RestrictedTree, PointerTree, ArrayTree, FunctionTree, AggregateTree}
use Rattle.c_types.specs.Outlines.{outline_of}
use Rattle.expression_rows.specs.Values.{value_in}
use Rattle.enum_rows.specs.Integers.{integer_in, integer_with}

pub type_told : (type_ : TypeTree) → integer_with None (outline_of type_) ≡ integer_in type_
type_told (Typed VoidTree _ _) = refl
type_told (Typed (IntegerTree kind) _ _) = refl
type_told (Typed (RestrictedTree kind identity) _ _) = refl
type_told (Typed (PointerTree target) _ _) = refl
type_told (Typed (ArrayTree element length) _ _) = refl
type_told (Typed (FunctionTree result parameters variadic) _ _) = refl
type_told (Typed (AggregateTree number is_union) _ _) = refl

-- of the value of an expression
pub value_told : (width : Option ℕ) (type_ : TypeTree) → integer_with width (outline_of type_) ≡ integer_in (value_in width type_)
value_told None (Typed VoidTree _ _) = refl
value_told None (Typed (IntegerTree kind) _ _) = refl
value_told None (Typed (RestrictedTree kind identity) _ _) = refl
value_told None (Typed (PointerTree target) _ _) = refl
value_told None (Typed (ArrayTree element length) _ _) = refl
value_told None (Typed (FunctionTree result parameters variadic) _ _) = refl
value_told None (Typed (AggregateTree number is_union) _ _) = refl
value_told (Some bits) (Typed VoidTree _ _) = refl
value_told (Some bits) (Typed (IntegerTree kind) _ _) = refl
value_told (Some bits) (Typed (RestrictedTree kind identity) _ _) = refl
value_told (Some bits) (Typed (PointerTree target) _ _) = refl
value_told (Some bits) (Typed (ArrayTree element length) _ _) = refl
value_told (Some bits) (Typed (FunctionTree result parameters variadic) _ _) = refl
value_told (Some bits) (Typed (AggregateTree number is_union) _ _) = refl
