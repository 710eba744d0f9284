-- A value is void where its type is.
use Rattle.std.proofs.Common.{◌≡◌, ℕ, Option, Some, None, if◌then◌else◌, refl}
use Rattle.meaning_types.specs.Types.{TypeTree, Typed, VoidTree, IntegerTree, RestrictedTree, PointerTree, ArrayTree, FunctionTree, AggregateTree, decayed, value_type}
use Rattle.meaning_types.specs.Spaces.{is_void}
use Rattle.meaning_constants.specs.Nodes.{loaded_type}
use Rattle.meaning_typing.specs.Facts.{ExpressionFact, decays, type_of_value}

by_type : (width : Option ℕ) (type_ : TypeTree) → is_void (if decays type_ then decayed type_ else value_type (loaded_type width type_)) ≡ is_void type_
by_type None (Typed VoidTree _ _) = refl
by_type None (Typed (IntegerTree kind) _ _) = refl
by_type None (Typed (RestrictedTree kind identity) _ _) = refl
by_type None (Typed (PointerTree target) _ _) = refl
by_type None (Typed (ArrayTree element length) _ _) = refl
by_type None (Typed (FunctionTree result parameters variadic) _ _) = refl
by_type None (Typed (AggregateTree number is_union) _ _) = refl
by_type (Some width) (Typed VoidTree _ _) = refl
by_type (Some width) (Typed (IntegerTree kind) _ _) = refl
by_type (Some width) (Typed (RestrictedTree kind identity) _ _) = refl
by_type (Some width) (Typed (PointerTree target) _ _) = refl
by_type (Some width) (Typed (ArrayTree element length) _ _) = refl
by_type (Some width) (Typed (FunctionTree result parameters variadic) _ _) = refl
by_type (Some width) (Typed (AggregateTree number is_union) _ _) = refl

pub is_void_value : (expression : ExpressionFact) → is_void (type_of_value expression) ≡ is_void expression.type_
is_void_value expression = by_type expression.width expression.type_
