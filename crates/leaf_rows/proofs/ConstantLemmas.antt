-- What isn't loaded: arrays and functions.
use Rattle.std.proofs.Common.{◌≡◌, ◌||◌, refl}
use Rattle.meaning_types.specs.Types.{TypeTree, Typed, VoidTree, IntegerTree, RestrictedTree, PointerTree, ArrayTree, FunctionTree, AggregateTree}
use Rattle.meaning_typing.specs.Declarators.{is_function}
use Rattle.meaning_typing.specs.Expressions.{is_array}
use Rattle.meaning_typing.specs.Facts.{decays}

pub decays_told : (type_ : TypeTree) → (is_array type_ || is_function type_) ≡ decays type_
decays_told (Typed VoidTree _ _) = refl
decays_told (Typed (IntegerTree kind) _ _) = refl
decays_told (Typed (RestrictedTree kind identity) _ _) = refl
decays_told (Typed (PointerTree target) _ _) = refl
decays_told (Typed (ArrayTree element length) _ _) = refl
decays_told (Typed (FunctionTree result parameters variadic) _ _) = refl
decays_told (Typed (AggregateTree number is_union) _ _) = refl
